use Rattle.std.proofs.Common.{◌≡◌, ◌++◌, drop}
use Rattle.std.specs.Prelude.{flat_map}
use Rattle.sva_driver_reports.specs.Reports.{found_text}
use Rattle.sva_driver_reports.proofs.reports.put_each_found.Given as goal

-- what is told so far, and what is left
abbrev pub invariant-loop-place : goal.invariant-loop-place
invariant-loop-place l =
    l.out.items ++ flat_map (found_text l.text l.is_brief) (drop l.place l.found)
    ≡ l.initial.out.items ++ flat_map (found_text l.text l.is_brief) l.found
