use Rattle.std.proofs.Common.{◌≡◌, drop, map}
use Rattle.std.specs.List.{find, list_any}
use Rattle.sva_labels.specs.Finding.{holds_back}
use Rattle.sva_snapshot.specs.Shown.{flight_shown}
use Rattle.sva_snapshot.proofs.holding.held_back_by.Given as goal

-- no message so far holds it back
abbrev pub invariant-loop-older : goal.invariant-loop-older
invariant-loop-older l = record {
  oldest : find (holds_back (flight_shown l.flight)) (map flight_shown (drop l.older-index l.flights))
      ≡ find (holds_back (flight_shown l.flight)) (map flight_shown l.flights);
  any : list_any (holds_back (flight_shown l.flight)) (map flight_shown (drop l.older-index l.flights))
      ≡ list_any (holds_back (flight_shown l.flight)) (map flight_shown l.flights);
}
