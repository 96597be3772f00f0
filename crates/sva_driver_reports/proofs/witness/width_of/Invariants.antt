use Rattle.std.proofs.Common.{◌≡◌, drop}
use Rattle.sva_driver_reports.specs.Witness.{width_from}
use Rattle.sva_driver_reports.proofs.witness.width_of.Given as goal

-- the width of the events so far, with those that are left
abbrev pub invariant-loop-place : goal.invariant-loop-place
invariant-loop-place l = width_from l.width (drop l.place l.events) ≡ width_from 0 l.events
