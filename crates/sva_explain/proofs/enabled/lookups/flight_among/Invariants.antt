use Rattle.std.proofs.Common.{◌≡◌, ◌==◌, drop, map}
use Rattle.std.specs.List.{find}
use Rattle.sva_snapshot.specs.Shown.{flight_shown}
use Rattle.sva_explain.proofs.enabled.lookups.flight_among.Given as goal

-- none so far has the number
abbrev pub invariant-loop-flight : goal.invariant-loop-flight
invariant-loop-flight l =
    find (λ flight. flight.number == l.number) (map flight_shown (drop l.flight-index l.flights))
    ≡ find (λ flight. flight.number == l.number) (map flight_shown l.flights)
