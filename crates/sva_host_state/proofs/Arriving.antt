-- What is known of a message that arrives.
use Rattle.std.proofs.Common.{◌≡◌, refl, ap, sym, ◌∙◌, subst, ℕ, zero, suc, ◌<◌, Bool, true, false, arith}
use Rattle.std.specs.Prelude.{not, ◌==◌, if◌then◌else◌, nat_lt, Ok, Option, Some, None, option_map, List, [], ◌∷◌, map, length, slice_get}
use Rattle.std.proofs.lemmas.Bool.Decides.{nat_tests}
use Rattle.std.specs.List.{find, list_any}
use Rattle.sva_model.specs.Wire.{Wire, FlightWire}
use Rattle.sva_labels.specs.Finding.{flight_of, may_deliver, holds_back}
use Rattle.sva_labels.specs.Sound.{IsSound}
use Rattle.sva_msg.specs.declared.in_flight.Flight.{Flight}
use Rattle.sva_msg.specs.declared.messages.Kind.{Kind}
use Rattle.sva_msg.specs.declared.messages.Message.{Message as Sent}
use Rattle.sva_msg.specs.Bag.{InFlight, IsNumbered, MayDeliver, message_at}
use Rattle.sva_msg.specs.Flight.{IsAt}
use Rattle.sva_msg.proofs.Numbered.{number_at}
use Rattle.sva_parts_by_labels.specs.Flights.{flight_seen, flight_at, flights_seen}
use Rattle.sva_parts_by_labels.proofs.Flights.{flight_laws}
use Rattle.sva_host_state.specs.declared.host_state.HostState.TheInside.{Inside as HostState}
use Rattle.sva_host_state.specs.declared.host_state.Port.{Port}
use Rattle.sva_host_state.specs.Inner.{wire_of}
use Rattle.sva_host_state.specs.Steps.{PortFor}
use Rattle.sva_host_state.proofs.Ports.{below}
use Rattle.sva_host_state.specs.Arriving.{IsArriving, StandsAt}

-- what is found under a number stands somewhere in the list
pub stands : (n : ℕ) (fs : List FlightWire) (f : FlightWire) → find (λ g. g.number == n) fs ≡ Some f → (k : ℕ) × (slice_get fs k ≡ Some f)
stands n [] f is = absurd (cc (is))
stands n (g ∷ fs) f is = go (g.number == n) is (stands n fs f)
  where
    go : (b : Bool) → (if b then Some g else find (λ h. h.number == n) fs) ≡ Some f
        → (find (λ h. h.number == n) fs ≡ Some f → (k : ℕ) × (slice_get fs k ≡ Some f))
        → (k : ℕ) × (slice_get (g ∷ fs) k ≡ Some f)
    go true same rest = (0, same)
    go false same rest = let (k, there) = rest same in (suc k, there)

-- it may be taken out of the bag
pub may_take : (host : HostState) (v : Wire) (n e : ℕ) (kind : Kind) → wire_of host ≡ v → IsNumbered host.in_flight → IsArriving v n e kind
    → MayDeliver host.in_flight n
may_take host v n e kind view numbered arriving = go (message_at host.in_flight n) refl
  where
    is_false : (b : Bool) → not b ≡ true → b ≡ false
    is_false false is = refl
    is_false true is = absurd (cc (is))

    found : flight_of (wire_of host) n ≡ Some (flight_seen (n, record { endpoint = e; kind = kind }))
    found = ap (λ (w : Wire). flight_of w n) view ∙ arriving.found

    held : list_any (holds_back (flight_seen (n, record { endpoint = e; kind = kind }))) (flights_seen host.in_flight) ≡ false
    held =
        is_false (list_any (holds_back (flight_seen (n, record { endpoint = e; kind = kind }))) (flights_seen host.in_flight))
        (ap (λ (w : Wire). not (list_any (holds_back (flight_seen (n, record { endpoint = e; kind = kind }))) w.in_flight)) view ∙ arriving.free)

    go : (o : Option Sent) → message_at host.in_flight n ≡ o → MayDeliver host.in_flight n
    go None none = absurd (nothing (sym (ap (flight_at n) none) ∙ sym ((flight_laws host.in_flight numbered).by_number n) ∙ found))
      where
        nothing : ◌≡◌ {A = Option FlightWire} None (Some (flight_seen (n, record { endpoint = e; kind = kind }))) → ⊥
        nothing wrong = cc
    go (Some sent) some =
        ((flight_laws host.in_flight numbered).may_deliver n sent some).0
        (subst (λ (f : FlightWire). list_any (holds_back f) (flights_seen host.in_flight) ≡ false) (sym same) held)
      where
        same : flight_seen (n, sent) ≡ flight_seen (n, record { endpoint = e; kind = kind })
        same =
            let both : ◌≡◌ {A = Option FlightWire} (Some (flight_seen (n, sent))) (Some (flight_seen (n, record { endpoint = e; kind = kind }))) =
            sym (ap (flight_at n) some) ∙ sym ((flight_laws host.in_flight numbered).by_number n) ∙ found in
            cc

-- where it was found
numbers_seen : (es : List (ℕ × Sent)) (k : ℕ) → option_map (λ (f : FlightWire). f.number) (slice_get (map flight_seen es) k) ≡ number_at es k
numbers_seen [] k = refl
numbers_seen (p ∷ es) zero = refl
numbers_seen (p ∷ es) (suc k) = numbers_seen es k

pub seen_at : (bag : InFlight) (flight : Flight) → option_map (λ (f : FlightWire). f.number) (slice_get (flights_seen bag) flight.place)
    ≡ number_at bag.messages flight.place
seen_at bag flight = numbers_seen bag.messages flight.place

pub stands_at : (host : HostState) (v : Wire) (flight : Flight) → wire_of host ≡ v → StandsAt v flight → IsAt host.in_flight flight
stands_at host v flight view is =
    sym (seen_at host.in_flight flight)
    ∙ ap (λ (w : Wire). option_map (λ (f : FlightWire). f.number) (slice_get w.in_flight flight.place)) view
    ∙ is

pub stands_there : (host : HostState) (v : Wire) (flight : Flight) → wire_of host ≡ v → IsAt host.in_flight flight → StandsAt v flight
stands_there host v flight view is =
    ap (λ (w : Wire). option_map (λ (f : FlightWire). f.number) (slice_get w.in_flight flight.place)) (sym view)
    ∙ seen_at host.in_flight flight
    ∙ is

-- its endpoint is there
pub goes_to : (w : Wire) (n e : ℕ) (kind : Kind) → IsSound w → IsArriving w n e kind → e < length w.parts
goes_to w n e kind sound arriving =
    let (k, there) = stands n w.in_flight (flight_seen (n, record { endpoint = e; kind = kind })) arriving.found in
    sound.flight_endpoint k (flight_seen (n, record { endpoint = e; kind = kind })) there

below_true : (a b : ℕ) → a < b → nat_lt a b ≡ true
below_true a b h = grind (arith, nat_tests)

pub arriving_port : (w : Wire) (n e : ℕ) (kind : Kind) → IsSound w → IsArriving w n e kind → PortFor w e (Ok e)
arriving_port w n e kind sound arriving = (refl, below_true e (length w.parts) (goes_to w n e kind sound arriving))

pub arriving_within : (host : HostState) (v : Wire) (n e : ℕ) (kind : Kind) → wire_of host ≡ v → IsSound v → IsArriving v n e kind → e < length host.ports.items
arriving_within host v n e kind view sound arriving =
    below host.ports.items e (ap (λ (w : Wire). nat_lt e (length w.parts)) view ∙ below_true e (length v.parts) (goes_to v n e kind sound arriving))

-- what is found, of what the host is seen as
pub seen_found : (host : HostState) (v : Wire) (n e : ℕ) (kind : Kind) → wire_of host ≡ v → IsArriving v n e kind
    → flight_of (wire_of host) n ≡ Some (flight_seen (n, record { endpoint = e; kind = kind }))
seen_found host v n e kind view arriving = ap (λ (w : Wire). flight_of w n) view ∙ arriving.found

pub seen_free : (host : HostState) (v : Wire) (n e : ℕ) (kind : Kind) → wire_of host ≡ v → IsArriving v n e kind
    → may_deliver (wire_of host) (flight_seen (n, record { endpoint = e; kind = kind })) ≡ true
seen_free host v n e kind view arriving = ap (λ (w : Wire). may_deliver w (flight_seen (n, record { endpoint = e; kind = kind }))) view ∙ arriving.free
