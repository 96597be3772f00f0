use Rattle.std.proofs.Common.{◌≡◌, ◌++◌, drop}
use Rattle.sva_driver_reports.specs.Reports.{others_from}
use Rattle.sva_driver_reports.proofs.notes.put_others_behind.Given as goal

-- what was said so far, and what is left to say
abbrev pub invariant-loop-place : goal.invariant-loop-place
invariant-loop-place l =
    l.out.items ++ others_from l.text l.spot l.first l.place (drop l.place l.lines)
    ≡ l.initial.out.items ++ others_from l.text l.spot l.first 0 l.lines
