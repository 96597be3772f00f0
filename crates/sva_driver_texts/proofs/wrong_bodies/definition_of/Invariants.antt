use Rattle.std.proofs.Common.{◌≡◌, drop, map}
use Rattle.sva_driver_texts.specs.Bodies.{defined_seen}
use Rattle.sva_driver_texts.specs.WrittenOut.{definition_of}
use Rattle.sva_driver_texts.proofs.wrong_bodies.definition_of.Given as goal

-- the one among those that are left is the one among all
abbrev pub invariant-loop-own : goal.invariant-loop-own
invariant-loop-own l =
    definition_of (map defined_seen (drop l.own-index l.defined)) l.name ≡ definition_of (map defined_seen l.defined) l.name
