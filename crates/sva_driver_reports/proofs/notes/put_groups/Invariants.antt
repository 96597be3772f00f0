use Rattle.std.proofs.Common.{◌≡◌, ◌++◌, drop}
use Rattle.sva_driver_reports.specs.Reports.{groups_from}
use Rattle.sva_driver_reports.proofs.notes.put_groups.Given as goal

-- what was said so far, and what is left to say
abbrev pub invariant-loop-index : goal.invariant-loop-index
invariant-loop-index l =
    l.out.items ++ groups_from l.endpoint l.index (drop l.index l.groups) ≡ l.initial.out.items ++ groups_from l.endpoint 0 l.groups
