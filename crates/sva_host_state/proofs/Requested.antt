-- Translation requests that arrive, by labels.
use Rattle.std.proofs.Common.{◌≡◌, refl, ap, sym, ◌∙◌, subst, ℕ, ◌+◌, Bool, true, false}
use Rattle.std.specs.Prelude.{◌&&◌, not, if◌then◌else◌, Ok, Err, Option, option_map, [], ◌∷◌}
use Rattle.sva_step.specs.declared.answers.Answer.TheVariants as answer
use Rattle.sva_step.specs.declared.refusals.Refusal.{Refusal}
use Rattle.sva_step.specs.declared.refusals.Refusal.TheVariants as refusal
use Rattle.sva_step.specs.declared.steps.Step.TheVariants as step
use Rattle.sva_model.specs.Message.{Message}
use Rattle.sva_model.specs.Wire.{Wire, FlightWire}
use Rattle.sva_labels.specs.Finding.{unit_of, bearer}
use Rattle.sva_labels.specs.Causes.{lacks, numbers_spent, deliver_causes}
use Rattle.sva_labels.specs.Host.{Decision, checked, decide_of}
use Rattle.sva_labels.specs.Moves.{Move, moved, sent, delivered}
use Rattle.sva_labels.specs.Outcomes.{by_one, completion_of, found_for, request_result, deliver_result}
use Rattle.sva_msg.specs.declared.messages.Kind.{Kind}
use Rattle.sva_msg.specs.declared.messages.Kind.TheVariants.{Request}
use Rattle.sva_msg.specs.declared.messages.Message.{Message as Sent}
use Rattle.sva_msg.specs.Bag.{InFlight, IsNumbered, MayDeliver, with_sent, without}
use Rattle.sva_pasid.specs.declared.places.TableEntry.{TableEntry}
use Rattle.sva_pasid.specs.Places.{place_under}
use Rattle.sva_parts_by_labels.specs.Bindings.{binding_seen}
use Rattle.sva_parts_by_labels.specs.Flights.{kind_seen}
use Rattle.sva_parts_by_labels.proofs.Bindings.{bindings_are_seen}
use Rattle.sva_parts_by_labels.proofs.Flights.{flight_laws}
use Rattle.sva_host_state.specs.declared.host_state.HostState.TheInside.{Inside as HostState}
use Rattle.sva_host_state.specs.declared.host_state.Port.{Port}
use Rattle.sva_host_state.specs.Arriving.{IsArriving}
use Rattle.sva_host_state.specs.Inner.{wire_of}
use Rattle.sva_host_state.specs.Steps.{Does, ByLabels, Sends}
use Rattle.sva_host_state.proofs.Arrived.{here}
use Rattle.sva_host_state.proofs.Devices.{unsent_done}
use Rattle.sva_host_state.proofs.Ports.{IsPort}
use Rattle.sva_host_state.proofs.ResetMessages.{left_in_flight, older}
use Rattle.sva_host_state.proofs.Sent.{sent_decided}
use Rattle.sva_host_state.proofs.Waiting.{open_there as open_at}

-- What is found.

pub bearer_is : (host : HostState) (v : Wire) (e t : ℕ) (o : Option TableEntry) → wire_of host ≡ v → o ≡ place_under e t host.bindings → bearer v e t
    ≡ option_map binding_seen o
bearer_is host v e t o view is =
    ap (λ (w : Wire). bearer w e t) (sym view) ∙ sym (((bindings_are_seen host.bindings).0 (wire_of host) refl).by_pasid e t)
    ∙ ap (option_map binding_seen) (sym is)

pub found_by : (host : HostState) (v : Wire) (e t q : ℕ) (o : Option TableEntry) → wire_of host ≡ v → o ≡ place_under e t host.bindings
    → found_for v q (option_map binding_seen o) ≡ found_for v q (bearer v e t)
found_by host v e t q o view is = ap (found_for v q) (sym (bearer_is host v e t o view is))

-- What is decided.

abbrev pub request_decision : Wire → (n e tag t q : ℕ) → Bool → Decision
request_decision w n e tag t q b =
    if b && lacks w.next_message 1
    then record { reply = Err refusal.NumbersSpent; moves = [] }
    else record { reply = Ok (request_result w e n tag t q b).answer; moves = (request_result w e n tag t q b).moves }

decided : (w : Wire) (n e tag t q : ℕ) (b : Bool) → IsArriving w n e (Request tag t q) → (unit_of w e).is_open ≡ b
    → decide_of w (step.Deliver n) ≡ request_decision w n e tag t q b
decided w n e tag t q b arriving is_open =
    ap (λ (o : Option FlightWire). checked (deliver_causes w o) (deliver_result w o)) arriving.found
    ∙ (λ i. if not (arriving.free i) then record { reply = Err refusal.Overtakes; moves = [] } else request_decision w n e tag t q (is_open i))

pub unasked : (host : HostState) (v : Wire) (n e tag t q : ℕ) (port : Port) (bag : InFlight) → wire_of host ≡ v → IsNumbered host.in_flight → IsPort host e port
    → IsArriving v n e (Request tag t q) → port.unit.unit.is_open ≡ false → bag ≡ without host.in_flight n
    → ByLabels v (step.Deliver n) (Ok answer.Dropped) (wire_of (record host { in_flight = bag }))
unasked host v n e tag t q port bag view numbered is arriving shut taken =
    subst (λ (u : Wire). ByLabels u (step.Deliver n) (Ok answer.Dropped) (wire_of (record host { in_flight = bag }))) view
    (subst (λ (d : Decision). Does d (wire_of host) (Ok answer.Dropped) (wire_of (record host { in_flight = bag })))
    (sym (decided (wire_of host) n e tag t q false (here host v n e (Request tag t q) view arriving) (open_at host e port false is shut))) (
      refl,
      ap (λ (b : InFlight). wire_of (record host { in_flight = b })) taken
          ∙ (λ i. record (wire_of host) { in_flight = (flight_laws host.in_flight numbered).delivered n i }),
    ))

-- at an open unit
may : (host : HostState) (n e tag t q : ℕ) (port : Port) → IsPort host e port → IsArriving (wire_of host) n e (Request tag t q) → port.unit.unit.is_open ≡ true
    → decide_of (wire_of host) (step.Deliver n)
    ≡ checked (numbers_spent host.in_flight.next 1 ∷ [])
    (by_one answer.Completion (Move.Complete e n (completion_of tag (found_for (wire_of host) q (bearer (wire_of host) e t)))))
may host n e tag t q port is arriving is_open = decided (wire_of host) n e tag t q true arriving (open_at host e port true is is_open)

pub answer_unsent : (host : HostState) (v : Wire) (n e tag t q : ℕ) (port : Port) (kind : Kind) (bag : InFlight) (x : Refusal) → wire_of host ≡ v
    → IsPort host e port
    → IsArriving v n e (Request tag t q) → port.unit.unit.is_open ≡ true → Sends host.in_flight e kind 1 (Err x) bag
    → ByLabels (wire_of host) (step.Deliver n) (Err x) (wire_of (record host { in_flight = bag }))
answer_unsent host v n e tag t q port kind bag x view is arriving is_open sends =
    unsent_done host (step.Deliver n) e kind 1 bag x _ (may host n e tag t q port is (here host v n e (Request tag t q) view arriving) is_open) sends

pub answered : (host : HostState) (v : Wire) (n e tag t q : ℕ) (port : Port) (kind : Kind) (bag left : InFlight) → wire_of host ≡ v
    → IsNumbered host.in_flight → MayDeliver host.in_flight n → IsPort host e port
    → IsArriving v n e (Request tag t q) → port.unit.unit.is_open ≡ true → kind_seen kind ≡ completion_of tag (found_for v q (bearer v e t))
    → Sends host.in_flight e kind 1 (Ok tt) bag → left ≡ without bag n
    → ByLabels v (step.Deliver n) (Ok answer.Completion) (wire_of (record host { in_flight = left }))
answered host v n e tag t q port kind bag left view numbered free is arriving is_open says sends taken =
    subst (λ (u : Wire). ByLabels u (step.Deliver n) (Ok answer.Completion) (wire_of (record host { in_flight = left }))) view
    (subst (λ (d : Decision). Does d (wire_of host) (Ok answer.Completion) (wire_of (record host { in_flight = left })))
    (sym (may host n e tag t q port is (here host v n e (Request tag t q) view arriving) is_open ∙ sent_decided host.in_flight bag e kind 1 _ sends))
    (refl, after))
  where
    message : Sent
    message = record { endpoint = e; kind = kind }

    told : kind_seen kind ≡ completion_of tag (found_for (wire_of host) q (bearer (wire_of host) e t))
    told = says ∙ ap (λ (w : Wire). completion_of tag (found_for w q (bearer w e t))) (sym view)

    all : left ≡ without (with_sent host.in_flight message 1) n
    all = taken ∙ ap (λ (b : InFlight). without b n) sends.1

    after : wire_of (record host { in_flight = left })
        ≡ moved (wire_of host) (Move.Complete e n (completion_of tag (found_for (wire_of host) q (bearer (wire_of host) e t))))
    after =
        ap (λ (b : InFlight). wire_of (record host { in_flight = b })) all
        ∙ (λ i. record (wire_of host) {
          in_flight = left_in_flight host.in_flight n message numbered sends.0 (older host.in_flight n free.0 numbered free.1) i;
          next_message = host.in_flight.next + 1;
        })
        ∙ ap (λ (m : Message). sent e m (delivered n (wire_of host))) told
