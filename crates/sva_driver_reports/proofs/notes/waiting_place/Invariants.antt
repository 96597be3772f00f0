use Rattle.std.proofs.Common.{◌≡◌, drop}
use Rattle.sva_driver_reports.specs.Reports.{waiting_place}
use Rattle.sva_driver_reports.proofs.notes.waiting_place.Given as goal

-- the first of those that are left is the first of all
abbrev pub invariant-loop-place : goal.invariant-loop-place
invariant-loop-place l = waiting_place l.text l.spot l.place (drop l.place l.lines) ≡ waiting_place l.text l.spot 0 l.lines
