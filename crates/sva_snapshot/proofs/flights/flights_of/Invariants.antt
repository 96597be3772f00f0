use Rattle.std.proofs.Common.{◌≡◌, map, take}
use Rattle.sva_parts_by_labels.specs.Flights.{flight_seen}
use Rattle.sva_snapshot.specs.Shown.{flight_shown}
use Rattle.sva_snapshot.proofs.flights.flights_of.Given as goal

abbrev pub invariant-loop-place : goal.invariant-loop-place
invariant-loop-place l = map flight_shown l.flights.items ≡ map flight_seen (take l.place l.bag.messages)
