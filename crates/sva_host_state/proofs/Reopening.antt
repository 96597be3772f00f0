-- A ResetDone arrives, by labels: the unit is open again.
use Rattle.std.proofs.Common.{◌≡◌, refl, ap, sym, ◌∙◌, subst, ℕ, false}
use Rattle.std.specs.Prelude.{not, if◌then◌else◌, Ok, Err, Option, None, List, [], ◌∷◌}
use Rattle.sva_step.specs.declared.answers.Answer.TheVariants as answer
use Rattle.sva_step.specs.declared.refusals.Refusal.TheVariants as refusal
use Rattle.sva_step.specs.declared.steps.Step.TheVariants as step
use Rattle.sva_model.specs.Wire.{Wire, EndpointWire, FlightWire}
use Rattle.sva_labels.specs.Causes.{deliver_causes}
use Rattle.sva_labels.specs.Host.{Decision, checked, decide_of}
use Rattle.sva_labels.specs.Moves.{Move, moved}
use Rattle.sva_labels.specs.Outcomes.{deliver_result}
use Rattle.sva_labels.specs.Sound.{IsSound}
use Rattle.sva_address_spaces.specs.Seen.{AddressSpacesSeen}
use Rattle.sva_address_spaces.specs.Unmapping.{settled}
use Rattle.sva_msg.specs.declared.messages.Kind.TheVariants.{ResetDone}
use Rattle.sva_msg.specs.Bag.{InFlight, IsNumbered, without}
use Rattle.sva_pasid.specs.declared.places.TableEntry.{TableEntry}
use Rattle.sva_pasid.specs.Places.{after_reset}
use Rattle.sva_iommu.specs.Changes.{unit_reopened}
use Rattle.sva_iommu.specs.Seen.{with_unit}
use Rattle.sva_parts_by_labels.proofs.Bindings.{bindings_are_seen}
use Rattle.sva_parts_by_labels.proofs.Flights.{flight_laws}
use Rattle.sva_host_state.specs.declared.host_state.HostState.TheInside.{Inside as HostState}
use Rattle.sva_host_state.specs.declared.host_state.Port.{Port}
use Rattle.sva_host_state.specs.Arriving.{IsArriving}
use Rattle.sva_host_state.specs.Inner.{wire_of}
use Rattle.sva_host_state.specs.Steps.{Does, ByLabels}
use Rattle.sva_host_state.proofs.Arrived.{here, suits}
use Rattle.sva_host_state.proofs.Ports.{IsPort}
use Rattle.sva_host_state.proofs.Units.{with_unit_in, with_unit_seen}

decided : (w : Wire) (n e : ℕ) → IsArriving w n e ResetDone
    → decide_of w (step.Deliver n) ≡ record { reply = Ok answer.ResetDone; moves = Move.Reopen e n ∷ [] }
decided w n e arriving =
    ap (λ (o : Option FlightWire). checked (deliver_causes w o) (deliver_result w o)) arriving.found
    ∙ (λ i.
    if not (arriving.free i) then record { reply = Err refusal.Overtakes; moves = [] }
    else record { reply = Ok answer.ResetDone; moves = Move.Reopen e n ∷ [] })

-- until then it isn't
pub is_shut : (host : HostState) (v : Wire) (n e : ℕ) (port : Port) → wire_of host ≡ v → IsSound v → IsPort host e port → IsArriving v n e ResetDone
    → port.unit.unit.is_open ≡ false
is_shut host v n e port view sound is arriving =
    sym (ap (λ (p : EndpointWire). p.unit.is_open) is.part) ∙ suits (wire_of host) n e ResetDone (subst IsSound (sym view) sound)
    (here host v n e ResetDone view arriving)

-- the bindings of the endpoint are cut off, and no frame waits for it
pub reopened : (host : HostState) (n e : ℕ) (port : Port) (bag : InFlight) (bindings : List TableEntry) (memory : AddressSpacesSeen) → IsNumbered host.in_flight
    → IsPort host e port
    → IsArriving (wire_of host) n e ResetDone
    → bag ≡ without host.in_flight n → bindings ≡ after_reset e host.bindings → memory ≡ settled host.address_spaces e (λ target. None)
    → ByLabels (wire_of host) (step.Deliver n) (Ok answer.ResetDone)
    (wire_of (record (with_unit_in host e port (with_unit port.unit (unit_reopened port.unit.unit)))
    { in_flight = bag; bindings = bindings; address_spaces = memory }))
reopened host n e port bag bindings memory numbered is arriving taken cut_off frees =
    let after = λ (b : InFlight) (places : List TableEntry) (m : AddressSpacesSeen).
    wire_of (record (with_unit_in host e port (with_unit port.unit (unit_reopened port.unit.unit))) { in_flight = b; bindings = places; address_spaces = m }) in
    let same : after bag bindings memory ≡ moved (wire_of host) (Move.Reopen e n) =
    (λ i. after (taken i) (cut_off i) (frees i))
    ∙ (λ i. record (with_unit_seen host e port unit_reopened is i) {
      in_flight = (flight_laws host.in_flight numbered).delivered n i;
      bindings = (bindings_are_seen host.bindings).1.reset e i;
      places = (settled host.address_spaces e (λ target. None)).places;
    }) in
    subst (λ (d : Decision). Does d (wire_of host) (Ok answer.ResetDone) (after bag bindings memory)) (sym (decided (wire_of host) n e arriving)) (refl, same)
