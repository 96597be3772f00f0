use Rattle.std.proofs.Common.{◌≡◌, ◌++◌, drop}
use Rattle.sva_driver_reports.specs.Reports.{parts_from}
use Rattle.sva_driver_reports.proofs.notes.put_parts.Given as goal

-- what was said so far, and what is left to say
abbrev pub invariant-loop-endpoint : goal.invariant-loop-endpoint
invariant-loop-endpoint l =
    l.out.items ++ parts_from l.endpoint (drop l.endpoint l.parts) ≡ l.initial.out.items ++ parts_from 0 l.parts
