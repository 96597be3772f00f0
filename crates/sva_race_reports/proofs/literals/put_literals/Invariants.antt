use Rattle.std.proofs.Common.{◌≡◌, ◌+◌, ◌++◌, drop}
use Rattle.sva_race_reports.specs.Literals.{asked_literals, literals_from}
use Rattle.sva_race_reports.proofs.literals.put_literals.Given as goal

-- what was said of the literals so far, and what is said of those that are left
abbrev pub invariant-loop-place : goal.invariant-loop-place
invariant-loop-place l =
    l.out.items ++ literals_from l.found (l.first + l.place) (asked_literals (drop l.place l.literals))
    ≡ l.initial.out.items ++ literals_from l.found l.first (asked_literals l.literals)
