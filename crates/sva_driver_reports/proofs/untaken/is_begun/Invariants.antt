use Rattle.std.proofs.Common.{◌≡◌, drop}
use Rattle.sva_driver_reports.specs.Untaken.{begun_from}
use Rattle.sva_driver_reports.proofs.untaken.is_begun.Given as goal

-- one of those that are left is such where one of all is
abbrev pub invariant-loop-place : goal.invariant-loop-place
invariant-loop-place l = begun_from l.taken l.number l.place (drop l.place l.lines) ≡ begun_from l.taken l.number 0 l.lines
