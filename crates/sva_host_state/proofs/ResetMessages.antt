-- A Reset arrives, by labels: its endpoint says that it is done, and the Reset leaves the bag.
use Rattle.std.proofs.Common.{◌≡◌, refl, ap, sym, ◌∙◌, subst, ℕ, ◌+◌, ◌<◌, ◌≤◌, ◌^◌, Bool, true, false, arith}
use Rattle.std.specs.Prelude.{cond, nat_eq, nat_lt, ◌==◌, not, if◌then◌else◌, Ok, Err, Option, Some, None, List, [], ◌∷◌, ◌++◌, filter}
use Rattle.std.specs.Map.{lookup}
use Rattle.std.proofs.lemmas.Bool.Decides.{nat_tests}
use Rattle.std.proofs.lemmas.List.Elements.{filter-append}
use Rattle.sva_step.specs.declared.answers.Answer.TheVariants as answer
use Rattle.sva_step.specs.declared.refusals.Refusal.TheVariants as refusal
use Rattle.sva_step.specs.declared.steps.Step.TheVariants as step
use Rattle.sva_model.specs.Wire.{FlightWire}
use Rattle.sva_labels.specs.Finding.{device_of}
use Rattle.sva_labels.specs.Causes.{lacks, numbers_spent, deliver_causes}
use Rattle.sva_labels.specs.Host.{Decision, checked, decide_of}
use Rattle.sva_labels.specs.Moves.{Move, moved, cleared}
use Rattle.sva_labels.specs.Outcomes.{by_one, deliver_result}
use Rattle.sva_msg.specs.declared.messages.Kind.TheVariants.{Reset, ResetDone}
use Rattle.sva_msg.specs.declared.messages.Message.{Message as Sent}
use Rattle.sva_msg.specs.Bag.{InFlight, IsNumbered, MayDeliver, message_at, with_sent, without}
use Rattle.sva_msg.specs.Flight.{IsAt}
use Rattle.sva_msg.specs.declared.in_flight.Flight.{Flight}
use Rattle.sva_msg.proofs.Numbered.{AreNumbered-sent, lookup-above, number_at-sent}
use Rattle.sva_endpoint.specs.Deliveries.{after_receive}
use Rattle.sva_parts_by_labels.specs.Device.{device_seen}
use Rattle.sva_parts_by_labels.specs.Flights.{flight_seen, flights_seen}
use Rattle.sva_parts_by_labels.proofs.Flights.{flight_laws}
use Rattle.sva_parts_by_labels.proofs.Deliveries.{reset_is_seen}
use Rattle.sva_host_state.specs.declared.host_state.HostState.TheInside.{Inside as HostState}
use Rattle.sva_host_state.specs.declared.host_state.Port.{Port}
use Rattle.sva_host_state.specs.Arriving.{IsArriving}
use Rattle.sva_host_state.specs.Inner.{wire_of}
use Rattle.sva_host_state.specs.Steps.{Does, ByLabels, Sends}
use Rattle.sva_host_state.proofs.Ports.{IsPort, with_tables, with_tables_seen}
use Rattle.sva_host_state.proofs.Devices.{device_there}
use Rattle.sva_host_state.proofs.Sent.{sent_seen, sent_decided}

-- A message more in the bag, which is behind all others.

fits : (n : ℕ) → lacks n 1 ≡ false → n + 1 ≤ 2 ^ 63
fits n room = grind (arith, nat_tests)

more_numbered : (bag : InFlight) (m : Sent) → IsNumbered bag → lacks bag.next 1 ≡ false → IsNumbered (with_sent bag m 1)
more_numbered bag m numbers room = (AreNumbered-sent 0 bag.next 1 bag.messages m numbers.0, fits bag.next room)

apart : (k n : ℕ) → k < n → nat_eq k n ≡ false
apart k n l = grind (arith, nat_tests)

apart_too : (k n : ℕ) → k < n → (n == k) ≡ false
apart_too k n l = grind (arith, nat_tests)

-- it isn't found under an older number
found_before : (k n : ℕ) (es : List (ℕ × Sent)) (m : Sent) → k < n → lookup (nat_eq k) (es ++ (n, m) ∷ []) ≡ lookup (nat_eq k) es
found_before k n [] m l = ap (λ (b : Bool). cond b (Some m) None) (apart k n l)
found_before k n (p ∷ es) m l = ap (λ (o : Option Sent). cond (nat_eq k p.0) (Some p.1) o) (found_before k n es m l)

-- what is in flight is older than the next message
pub older : (bag : InFlight) (n : ℕ) (m : Sent) → IsNumbered bag → message_at bag n ≡ Some m → n < bag.next
older bag n m numbers at = go (nat_lt n bag.next) refl
  where
    none : ◌≡◌ {A = Option Sent} None (Some m) → ⊥
    none wrong = cc

    go : (b : Bool) → nat_lt n bag.next ≡ b → n < bag.next
    go true is = grind (arith, nat_tests)
    go false is = absurd (none (sym (lookup-above 0 bag.next n bag.messages (grind (arith, nat_tests)) numbers.0) ∙ at))

-- and may be delivered as before
pub may_still : (bag after : InFlight) (n : ℕ) (m : Sent) → IsNumbered bag → MayDeliver bag n → after ≡ with_sent bag m 1 → MayDeliver after n
may_still bag after n m numbers may is = subst (λ (b : InFlight). MayDeliver b n) (sym is) (still may)
  where
    still : MayDeliver bag n → MayDeliver (with_sent bag m 1) n
    still (first, at, none) =
        let low = older bag n first numbers at in (
          first,
          found_before n bag.next bag.messages m low ∙ at,
          λ k other l there. none k other l (sym (found_before k bag.next bag.messages m (omega (arith, low, l))) ∙ there),
        )

-- it stands where it stood
pub still_at : (bag after : InFlight) (flight : Flight) (m : Sent) → IsAt bag flight → after ≡ with_sent bag m 1 → IsAt after flight
still_at bag after flight m at is =
    subst (λ (b : InFlight). IsAt b flight) (sym is) (number_at-sent flight.number flight.place bag.messages ((bag.next, m) ∷ []) at)

-- what is left once it is taken out
pub left_in_flight : (bag : InFlight) (n : ℕ) (m : Sent) → IsNumbered bag → lacks bag.next 1 ≡ false → n < bag.next
    → flights_seen (without (with_sent bag m 1) n) ≡ filter (λ f. not (f.number == n)) (flights_seen bag) ++ flight_seen (bag.next, m) ∷ []
left_in_flight bag n m numbers room low =
    (flight_laws (with_sent bag m 1) (more_numbered bag m numbers room)).delivered n
    ∙ ap (filter (λ f. not (f.number == n))) (sent_seen bag m)
    ∙ filter-append (λ (f : FlightWire). not (f.number == n)) (flights_seen bag) (flight_seen (bag.next, m) ∷ [])
    ∙ ap (λ (b : Bool). filter (λ f. not (f.number == n)) (flights_seen bag) ++ cond (not b) (flight_seen (bag.next, m) ∷ []) []) (apart_too n bag.next low)

-- The Reset.

decided : (host : HostState) (n e : ℕ) → IsArriving (wire_of host) n e Reset
    → decide_of (wire_of host) (step.Deliver n) ≡ checked (numbers_spent host.in_flight.next 1 ∷ []) (by_one answer.Reset (Move.ResetArrives e n))
decided host n e arriving =
    ap (λ (o : Option FlightWire). checked (deliver_causes (wire_of host) o) (deliver_result (wire_of host) o)) arriving.found
    ∙ ap
    (λ (b : Bool). if not b then record { reply = Err refusal.Overtakes; moves = [] } else checked (numbers_spent host.in_flight.next 1 ∷ [])
    (by_one answer.Reset (Move.ResetArrives e n)))
    arriving.free

pub reset_delivered : (host : HostState) (n e : ℕ) (port : Port) (bag left : InFlight) → IsNumbered host.in_flight → MayDeliver host.in_flight n
    → IsPort host e port
    → IsArriving (wire_of host) n e Reset → Sends host.in_flight e ResetDone 1 (Ok tt) bag → left ≡ without bag n
    → ByLabels (wire_of host) (step.Deliver n) (Ok answer.Reset)
    (wire_of (record (with_tables host e port (after_receive port.device Reset)) { in_flight = left }))
reset_delivered host n e port bag left numbers may is arriving sends taken =
    subst (λ (c : Decision). Does c (wire_of host) (Ok answer.Reset)
    (wire_of (record (with_tables host e port (after_receive port.device Reset)) { in_flight = left })))
    (sym (decided host n e arriving ∙ sent_decided host.in_flight bag e ResetDone 1 (by_one answer.Reset (Move.ResetArrives e n)) sends))
    (refl, after)
  where
    message : Sent
    message = record { endpoint = e; kind = ResetDone }

    all : left ≡ without (with_sent host.in_flight message 1) n
    all = taken ∙ ap (λ (b : InFlight). without b n) sends.1

    device : device_seen (after_receive port.device Reset) ≡ cleared (device_of (wire_of host) e)
    device = reset_is_seen port.device is.sound ∙ ap cleared (sym (device_there host e port is))

    after : wire_of (record (with_tables host e port (after_receive port.device Reset)) { in_flight = left }) ≡ moved (wire_of host) (Move.ResetArrives e n)
    after =
        ap (λ (b : InFlight). wire_of (record (with_tables host e port (after_receive port.device Reset)) { in_flight = b })) all
        ∙ (λ i. record (with_tables_seen host e port (after_receive port.device Reset) (cleared (device_of (wire_of host) e)) is device i) {
          in_flight = left_in_flight host.in_flight n message numbers sends.0 (older host.in_flight n may.0 numbers may.1) i;
          next_message = host.in_flight.next + 1;
        })
