use Rattle.std.proofs.Common.{◌≡◌, ◌++◌, drop}
use Rattle.sva_driver_reports.specs.Reports.{rows_from}
use Rattle.sva_driver_reports.proofs.notes.put_rows.Given as goal

-- what was said so far, and what is left to say
abbrev pub invariant-loop-pasid : goal.invariant-loop-pasid
invariant-loop-pasid l =
    l.out.items ++ rows_from l.endpoint l.pasid (drop l.pasid l.rows) ≡ l.initial.out.items ++ rows_from l.endpoint 0 l.rows
