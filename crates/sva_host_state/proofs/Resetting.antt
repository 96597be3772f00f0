-- A reset of an endpoint begins, by labels.
use Rattle.std.proofs.Common.{◌≡◌, ap, sym, ◌∙◌, ℕ, Bool, true, false}
use Rattle.std.specs.Prelude.{not, Ok, List, [], ◌∷◌}
use Rattle.sva_step.specs.declared.answers.Answer.TheVariants as answer
use Rattle.sva_step.specs.declared.refusals.Refusal.TheVariants as refusal
use Rattle.sva_step.specs.declared.steps.Step.TheVariants as step
use Rattle.sva_model.specs.Message.Message.{ResetMessage}
use Rattle.sva_model.specs.Wire.{EndpointWire, HostGroupWire}
use Rattle.sva_labels.specs.Finding.{part_of, unit_of}
use Rattle.sva_labels.specs.Causes.{numbers_spent, resetting}
use Rattle.sva_labels.specs.Host.{checked, decide_of}
use Rattle.sva_labels.specs.Moves.{Move, moved, sent, with_part}
use Rattle.sva_labels.specs.Outcomes.{by_one}
use Rattle.sva_msg.specs.declared.messages.Kind.TheVariants.{Reset}
use Rattle.sva_msg.specs.Bag.{InFlight}
use Rattle.sva_iommu.specs.Changes.{reset_begun}
use Rattle.sva_host_state.specs.declared.host_state.HostState.TheInside.{Inside as HostState}
use Rattle.sva_host_state.specs.declared.host_state.Port.{Port}
use Rattle.sva_host_state.specs.Inner.{wire_of}
use Rattle.sva_host_state.specs.Steps.{ByLabels, Sends}
use Rattle.sva_host_state.proofs.Deciding.{at_endpoint}
use Rattle.sva_host_state.proofs.Ports.{IsPort}
use Rattle.sva_host_state.proofs.Units.{with_unit_in, part_with, unit_in, unit_sent_done}

-- where the endpoint is there its unit decides first
decided : (host : HostState) (e : ℕ) (port : Port) (b : Bool) → IsPort host e port → port.unit.unit.is_open ≡ b
    → decide_of (wire_of host) (step.Reset e)
    ≡ checked ((not b, refusal.Resetting) ∷ numbers_spent host.in_flight.next 1 ∷ []) (by_one answer.Resetting (Move.Reset e))
decided host e port b is is_open =
    at_endpoint (wire_of host) e (resetting (wire_of host) e ∷ numbers_spent host.in_flight.next 1 ∷ [])
    ((not b, refusal.Resetting) ∷ numbers_spent host.in_flight.next 1 ∷ [])
    (by_one answer.Resetting (Move.Reset e)) is.there
    (ap (λ (c : Bool). (not c, refusal.Resetting) ∷ numbers_spent host.in_flight.next 1 ∷ []) (ap (λ (p : EndpointWire). p.unit.is_open) is.part ∙ is_open))

-- no group is filed yet, and there is no job
moves : (host : HostState) (e : ℕ) (port : Port) → IsPort host e port
    → moved (wire_of host) (Move.Reset e)
    ≡ sent e ResetMessage (with_part (wire_of host) e (part_with (part_of (wire_of host) e) (reset_begun (unit_in (part_of (wire_of host) e)))))
moves host e port is =
    let none : [] ≡ (part_of (wire_of host) e).host_groups = sym (ap (λ (p : EndpointWire). p.host_groups) is.part) in
    ap
    (λ (groups : List HostGroupWire).
    sent e ResetMessage
    (with_part (wire_of host) e
    (record (part_of (wire_of host) e) { unit = record (unit_of (wire_of host) e) { is_open = false; queue = [] }; page_queue = []; host_groups = groups })))
    none

pub reset_begins : (host : HostState) (e : ℕ) (port : Port) (bag : InFlight) → IsPort host e port → port.unit.unit.is_open ≡ true
    → Sends host.in_flight e Reset 1 (Ok tt) bag
    → ByLabels (wire_of host) (step.Reset e) (Ok answer.Resetting) (wire_of (record (with_unit_in host e port (reset_begun port.unit)) { in_flight = bag }))
reset_begins host e port bag is is_open sends =
    unit_sent_done host (step.Reset e) e port reset_begun Reset bag answer.Resetting (Move.Reset e) is (decided host e port true is is_open) sends
    (moves host e port is)
