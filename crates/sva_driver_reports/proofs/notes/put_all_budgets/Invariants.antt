use Rattle.std.proofs.Common.{◌≡◌, ◌++◌, drop}
use Rattle.sva_driver_reports.specs.Reports.{budgets_from}
use Rattle.sva_driver_reports.proofs.notes.put_all_budgets.Given as goal

-- what was said so far, and what is left to say
abbrev pub invariant-loop-endpoint : goal.invariant-loop-endpoint
invariant-loop-endpoint l =
    l.out.items ++ budgets_from l.mark l.parts l.lines l.endpoint (drop l.endpoint l.devices)
    ≡ l.initial.out.items ++ budgets_from l.mark l.parts l.lines 0 l.devices
