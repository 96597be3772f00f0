-- Page requests that arrive, and wait at a unit, by labels.
use Rattle.std.proofs.Common.{◌≡◌, refl, ap, sym, ◌∙◌, subst, ℕ, ◌<◌, Bool, true, false, arith}
use Rattle.std.proofs.lemmas.Bool.Decides.{nat_tests}
use Rattle.std.specs.Prelude.{not, nat_lt, if◌then◌else◌, Ok, Err, Option, None, Some, [], ◌∷◌, ◌++◌, drop, length, option_map}
use Rattle.sva_step.specs.declared.answers.Answer.TheVariants as answer
use Rattle.sva_step.specs.declared.refusals.Refusal.TheVariants as refusal
use Rattle.sva_step.specs.declared.steps.Step.TheVariants as step
use Rattle.sva_model.specs.Wire.{Wire, EndpointWire, BindingWire, FlightWire}
use Rattle.sva_labels.specs.Finding.{bearer, part_of, unit_of}
use Rattle.sva_labels.specs.Causes.{deliver_causes}
use Rattle.sva_labels.specs.Host.{Decision, checked, decide_of}
use Rattle.sva_labels.specs.Moves.{Move, moved, with_part}
use Rattle.sva_labels.specs.Outcomes.{page_request_result, deliver_result}
use Rattle.sva_labels.specs.Sound.{IsSound}
use Rattle.sva_msg.specs.declared.messages.Kind.TheVariants as kind
use Rattle.sva_msg.specs.declared.messages.PageRequest.{PageRequest}
use Rattle.sva_msg.specs.Bag.{InFlight, IsNumbered, without}
use Rattle.sva_pasid.specs.Places.{place_under}
use Rattle.sva_pasid.specs.declared.places.TableEntry.{TableEntry}
use Rattle.sva_iommu.specs.Changes.{with_requests}
use Rattle.sva_iommu.specs.Seen.{UnitSeen}
use Rattle.sva_msg.specs.Seen.{page_request_seen}
use Rattle.sva_parts_by_labels.specs.Bindings.{binding_seen}
use Rattle.sva_parts_by_labels.proofs.Bindings.{bindings_are_seen}
use Rattle.sva_parts_by_labels.proofs.Flights.{flight_laws}
use Rattle.sva_host_state.specs.declared.host_state.HostState.TheInside.{Inside as HostState}
use Rattle.sva_host_state.specs.declared.host_state.Port.{Port}
use Rattle.sva_host_state.specs.Arriving.{IsArriving}
use Rattle.sva_host_state.specs.Inner.{wire_of}
use Rattle.sva_host_state.specs.Steps.{Does, ByLabels}
use Rattle.sva_host_state.proofs.Arrived.{here, suits}
use Rattle.sva_host_state.proofs.Ports.{IsPort}
use Rattle.sva_host_state.proofs.Units.{with_unit_in, with_part_seen}
pub use Rattle.sva_host_state.proofs.Heads.{place_for as port_for}

-- a unit with this page request behind those that wait; without the first of them
abbrev pub with_last : PageRequest → UnitSeen → UnitSeen
with_last r u = with_requests u (u.page_queue ++ page_request_seen r ∷ [])

abbrev pub without_first : UnitSeen → UnitSeen
without_first u = with_requests u (drop 1 u.page_queue)

-- One that arrives.

-- what is decided, by whether the unit is open
abbrev decision : (n e : ℕ) → PageRequest → Bool → Decision
decision n e r b = record {
  reply = Ok (page_request_result e n (page_request_seen r) b).answer;
  moves = (page_request_result e n (page_request_seen r) b).moves;
}

decided : (w : Wire) (n e : ℕ) (r : PageRequest) (b : Bool) → IsArriving w n e (kind.PageRequest r) → (unit_of w e).is_open ≡ b
    → decide_of w (step.Deliver n) ≡ decision n e r b
decided w n e r b arriving is_open =
    ap (λ (o : Option FlightWire). checked (deliver_causes w o) (deliver_result w o)) arriving.found
    ∙ (λ i. if not (arriving.free i) then record { reply = Err refusal.Overtakes; moves = [] } else decision n e r (is_open i))

pub open_there : (host : HostState) (e : ℕ) (port : Port) (b : Bool) → IsPort host e port → port.unit.unit.is_open ≡ b → (unit_of (wire_of host) e).is_open ≡ b
open_there host e port b is is_open = ap (λ (p : EndpointWire). p.unit.is_open) is.part ∙ is_open

-- at an open unit there is a place for it
pub has_place : (host : HostState) (v : Wire) (n e : ℕ) (r : PageRequest) (port : Port) → wire_of host ≡ v → IsSound v → IsPort host e port
    → IsArriving v n e (kind.PageRequest r)
    → port.unit.unit.is_open ≡ true → length port.unit.page_queue < 32
has_place host v n e r port view sound is arriving is_open =
    subst (λ (p : EndpointWire). length p.page_queue < 32) is.part
    (suits (wire_of host) n e (kind.PageRequest r) (subst IsSound (sym view) sound) (here host v n e (kind.PageRequest r) view arriving)
    (open_there host e port true is is_open)).0

pub dropped : (host : HostState) (v : Wire) (n e : ℕ) (r : PageRequest) (port : Port) (bag : InFlight) → wire_of host ≡ v → IsNumbered host.in_flight
    → IsPort host e port
    → IsArriving v n e (kind.PageRequest r) → port.unit.unit.is_open ≡ false → bag ≡ without host.in_flight n
    → ByLabels v (step.Deliver n) (Ok answer.Dropped) (wire_of (record host { in_flight = bag }))
dropped host v n e r port bag view numbered is arriving shut taken =
    subst (λ (u : Wire). ByLabels u (step.Deliver n) (Ok answer.Dropped) (wire_of (record host { in_flight = bag }))) view
    (subst (λ (d : Decision). Does d (wire_of host) (Ok answer.Dropped) (wire_of (record host { in_flight = bag })))
    (sym (decided (wire_of host) n e r false (here host v n e (kind.PageRequest r) view arriving) (open_there host e port false is shut))) (
      refl,
      ap (λ (b : InFlight). wire_of (record host { in_flight = b })) taken ∙
          (λ i. record (wire_of host) { in_flight = (flight_laws host.in_flight numbered).delivered n i }),
    ))

pub queued : (host : HostState) (n e : ℕ) (r : PageRequest) (port : Port) (bag : InFlight) → IsNumbered host.in_flight → IsPort host e port
    → IsArriving (wire_of host) n e (kind.PageRequest r) → port.unit.unit.is_open ≡ true → bag ≡ without host.in_flight n
    → ByLabels (wire_of host) (step.Deliver n) (Ok answer.Queued) (wire_of (record (with_unit_in host e port (with_last r port.unit)) { in_flight = bag }))
queued host n e r port bag numbered is arriving is_open taken =
    subst (λ (d : Decision). Does d (wire_of host) (Ok answer.Queued)
    (wire_of (record (with_unit_in host e port (with_last r port.unit)) { in_flight = bag })))
    (sym (decided (wire_of host) n e r true arriving (open_there host e port true is is_open))) (refl, after)
  where
    after : wire_of (record (with_unit_in host e port (with_last r port.unit)) { in_flight = bag })
        ≡ moved (wire_of host) (Move.Arrive e n (page_request_seen r))
    after =
        ap (λ (b : InFlight). wire_of (record (with_unit_in host e port (with_last r port.unit)) { in_flight = b })) taken
        ∙ (λ i. record (with_part_seen host e port (with_last r) is i) { in_flight = (flight_laws host.in_flight numbered).delivered n i })

-- Those that wait.

below_true : (a b : ℕ) → a < b → nat_lt a b ≡ true
below_true a b h = grind (arith, nat_tests)

pub first_taken : (host : HostState) (v : Wire) (e : ℕ) (port : Port) → wire_of host ≡ v → IsPort host e port
    → wire_of (with_unit_in host e port (without_first port.unit)) ≡ with_part v e (record (part_of v e) { page_queue = drop 1 (part_of v e).page_queue })
first_taken host v e port view is =
    with_part_seen host e port without_first is
    ∙ ap (λ (w : Wire). with_part w e (record (part_of w e) { page_queue = drop 1 (part_of w e).page_queue })) view

-- The binding that bears a PASID.

named : (o : Option TableEntry) → option_map (λ (p : TableEntry). p.binding) o ≡ option_map (λ (b : BindingWire). b.binding) (option_map binding_seen o)
named None = refl
named (Some p) = refl

pub bearer_named : (host : HostState) (v : Wire) (e t : ℕ) (o : Option TableEntry) → wire_of host ≡ v → o ≡ place_under e t host.bindings
    → option_map (λ (p : TableEntry). p.binding) o ≡ option_map (λ (b : BindingWire). b.binding) (bearer v e t)
bearer_named host v e t o view found =
    named o
    ∙ ap (option_map (λ (b : BindingWire). b.binding))
    (ap (option_map binding_seen) found ∙ ((bindings_are_seen host.bindings).0 (wire_of host) refl).by_pasid e t ∙ ap (λ (w : Wire). bearer w e t) view)
