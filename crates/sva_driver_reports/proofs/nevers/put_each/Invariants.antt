use Rattle.std.proofs.Common.{◌≡◌, ◌++◌, drop}
use Rattle.sva_driver_reports.specs.Nevers.{nevers_from}
use Rattle.sva_driver_reports.proofs.nevers.put_each.Given as goal

-- what was said so far, and what is left to say
abbrev pub invariant-loop-place : goal.invariant-loop-place
invariant-loop-place l =
    l.out.items ++ nevers_from l.devices l.lines (drop l.place l.looked) ≡ l.initial.out.items ++ nevers_from l.devices l.lines l.looked
