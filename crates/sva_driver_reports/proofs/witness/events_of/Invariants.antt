use Rattle.std.proofs.Common.{drop}
use Rattle.sva_driver_reports.specs.Witness.{events_from, last_spot}
use Rattle.sva_driver_reports.proofs.Moved.{Moved}
use Rattle.sva_driver_reports.proofs.witness.events_of.Given as goal

-- the events so far, with those of the choices that are left
abbrev pub invariant-loop-place : goal.invariant-loop-place
invariant-loop-place l =
    Moved l.text l.events.items l.spot (drop l.place l.choices) (events_from l.text l.initial.spot l.choices)
    (last_spot l.text l.initial.spot l.choices)
