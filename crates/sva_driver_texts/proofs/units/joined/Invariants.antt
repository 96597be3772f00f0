use Rattle.std.proofs.Common.{◌≡◌, map, take}
use Rattle.sva_driver_texts.specs.Units.{joined_one}
use Rattle.sva_driver_texts.proofs.units.joined.Given as goal

abbrev pub invariant-loop-own : goal.invariant-loop-own
invariant-loop-own l = l.list.items ≡ map (joined_one l.unit l.other) (take l.own-index l.units)
