use Rattle.std.proofs.Common.{◌≡◌, ◌++◌, drop}
use Rattle.sva_driver_words.specs.Units.{shared_from, units_text}
use Rattle.sva_driver_words.proofs.units.put_units.Given as goal

-- what was said so far, and what is left to say
abbrev pub invariant-loop-unit : goal.invariant-loop-unit
invariant-loop-unit l =
    l.out.items ++ shared_from l.units l.before l.behind l.unit (drop l.unit l.units)
    ≡ l.initial.out.items ++ units_text l.units l.before l.behind
