-- What a move of one endpoint leaves of the whole, column by column: the endpoint's part, what is in flight, and the counters.
use Rattle.std.proofs.Common.{◌≡◌, sym, ℕ, ◌+◌, true, arith}
use Rattle.std.specs.Prelude.{List, [], ◌∷◌, ◌++◌, slice_set}
use Rattle.std.proofs.lemmas.List.{append-nil, set-get_or}
use Rattle.sva_model.specs.Words.{tabulate}
use Rattle.sva_model.specs.Message.{Message}
use Rattle.sva_model.specs.Message.Message.{ResetMessage}
use Rattle.sva_model.specs.State.{Mappings, Endpoint}
use Rattle.sva_model.specs.Acts.{LocalAct, sends, cookies_of}
use Rattle.sva_model.specs.Wire.{Wire, FlightWire}
use Rattle.sva_labels.specs.Finding.{part_of, idle}
use Rattle.sva_labels.specs.Moves.{moved}
use Rattle.sva_refinement.proofs.Named.{own_move}
use Rattle.sva_refinement.proofs.Kept.{part_moved}
use Rattle.sva_refinement.proofs.Flights.{delivers, said, still_flying, newly_sent}
use Rattle.sva_refinement.proofs.Columns.{keeps_bindings}
use Rattle.sva_refinement.proofs.JobActs.{keeps_jobs}

pub hands_left : (w : Wire) (first e : ℕ) (ms : Mappings) (p : Endpoint) (o : LocalAct) → (moved w (own_move first e ms p o)).hands ≡ w.hands
hands_left w first e ms p o = grind arith

pub spaces_left : (w : Wire) (first e : ℕ) (ms : Mappings) (p : Endpoint) (o : LocalAct) → (moved w (own_move first e ms p o)).spaces ≡ w.spaces
spaces_left w first e ms p o = grind arith

pub bindings_left :
    (w : Wire) (first e : ℕ) (ms : Mappings) (p : Endpoint) (o : LocalAct) → keeps_bindings o ≡ true
    → (moved w (own_move first e ms p o)).bindings ≡ w.bindings
bindings_left w first e ms p o h = grind arith

pub jobs_left : (w : Wire) (first e : ℕ) (ms : Mappings) (p : Endpoint) (o : LocalAct) → keeps_jobs o ≡ true → (moved w (own_move first e ms p o)).jobs ≡ w.jobs
jobs_left w first e ms p o h = grind arith

pub cookies_left :
    (w : Wire) (first e : ℕ) (ms : Mappings) (p : Endpoint) (o : LocalAct)
    → (moved w (own_move first e ms p o)).next_cookie ≡ w.next_cookie + cookies_of o
cookies_left w first e ms p o = grind arith

pub messages_left : (w : Wire) (first e : ℕ) (ms : Mappings) (p : Endpoint) (o : LocalAct) → (moved w (own_move first e ms p o)).next_message
    ≡ w.next_message + sends o
messages_left w first e ms p o = grind arith

pub numbers_left :
    (w : Wire) (first e : ℕ) (ms : Mappings) (p : Endpoint) (o : LocalAct)
    → ((moved w (own_move first e ms p o)).next_space ≡ w.next_space) × ((moved w (own_move first e ms p o)).next_binding ≡ w.next_binding)
numbers_left w first e ms p o = (grind arith, grind arith)

-- What is in flight.

none_sent : (xs : List FlightWire) (next e : ℕ) (m : Message) → xs ≡ xs ++ newly_sent next e 0 m
unfolding tabulate
none_sent xs next e m = sym (append-nil xs)

one_sent : (xs : List FlightWire) (next e : ℕ) (m : Message) → xs ++ record { number = next; endpoint = e; message = m } ∷ [] ≡ xs ++ newly_sent next e 1 m
unfolding tabulate
one_sent xs next e m =
    let same : next ≡ next + 0 = omega arith in
    λ i. xs ++ record { number = same i; endpoint = e; message = m } ∷ []

pub flights_left :
    (w : Wire) (first e : ℕ) (ms : Mappings) (p : Endpoint) (o : LocalAct)
    → (moved w (own_move first e ms p o)).in_flight ≡ still_flying first (delivers o) w.in_flight ++ newly_sent w.next_message e (sends o) (said p o)
flights_left w first e ms p o =
    grind (
      arith,
      none_sent w.in_flight w.next_message e ResetMessage,
      none_sent
          (still_flying first (delivers o) w.in_flight) w.next_message e ResetMessage,
      one_sent w.in_flight w.next_message e (said p o),
      one_sent
          (still_flying first (delivers o) w.in_flight) w.next_message e (said p o),
    )

-- The part of the endpoint.

unset : (w : Wire) (e : ℕ) → w.parts ≡ slice_set w.parts e (part_of w e)
unset w e = sym (set-get_or w.parts e idle)

pub parts_left :
    (w : Wire) (first e : ℕ) (ms : Mappings) (p : Endpoint) (o : LocalAct)
    → (moved w (own_move first e ms p o)).parts ≡ slice_set w.parts e (part_moved w.next_cookie (part_of w e) (own_move first e ms p o))
parts_left w first e ms p o = grind (arith, unset w e)
