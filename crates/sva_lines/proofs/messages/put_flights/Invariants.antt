use Rattle.std.proofs.Common.{◌≡◌, ◌++◌, flat_map, map, take}
use Rattle.sva_lines.specs.Messages.{message_line}
use Rattle.sva_snapshot.specs.Shown.{flight_shown}
use Rattle.sva_lines.proofs.messages.put_flights.Given as goal

abbrev pub invariant-loop-flight : goal.invariant-loop-flight
invariant-loop-flight l =
    l.out.items ≡ l.initial.out.items ++ flat_map (message_line l.snapshot) (map flight_shown (take l.flight-index l.flights))
