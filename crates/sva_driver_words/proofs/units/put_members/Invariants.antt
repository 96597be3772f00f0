use Rattle.std.proofs.Common.{◌≡◌, ◌++◌, drop}
use Rattle.sva_driver_words.specs.Units.{members_from}
use Rattle.sva_driver_words.proofs.units.put_members.Given as goal

-- what was said so far, and what is left to say
abbrev pub invariant-loop-place : goal.invariant-loop-place
invariant-loop-place l =
    l.out.items ++ members_from l.unit l.place (drop l.place l.units) ≡ l.initial.out.items ++ members_from l.unit 0 l.units
