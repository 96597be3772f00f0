use Rattle.std.proofs.Common.{◌≡◌, ◌++◌, drop}
use Rattle.std.specs.Prelude.{flat_map}
use Rattle.sva_driver_reports.specs.Witness.{event_line}
use Rattle.sva_driver_reports.proofs.witness.put_events.Given as goal

-- the lines so far, and those of the events that are left
abbrev pub invariant-loop-place : goal.invariant-loop-place
invariant-loop-place l =
    l.out.items ++ flat_map (event_line l.width) (drop l.place l.events) ≡ l.initial.out.items ++ flat_map (event_line l.width) l.events
