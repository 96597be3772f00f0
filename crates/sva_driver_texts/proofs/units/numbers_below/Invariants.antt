use Rattle.std.proofs.Common.{◌≡◌}
use Rattle.sva_driver_texts.specs.Units.{numbers_below}
use Rattle.sva_driver_texts.proofs.units.numbers_below.Given as goal

abbrev pub invariant-loop-endpoint : goal.invariant-loop-endpoint
invariant-loop-endpoint l = l.units.items ≡ numbers_below l.endpoint
