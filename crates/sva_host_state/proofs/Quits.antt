-- The end of an endpoint's use of a PASID, by labels.
use Rattle.std.proofs.Common.{◌≡◌, refl, ap, sym, ◌∙◌, subst, ℕ}
use Rattle.std.specs.Prelude.{not, Ok, Err, List, [], ◌∷◌, ◌++◌, map}
use Rattle.sva_step.specs.declared.answers.Answer.TheVariants as answer
use Rattle.sva_step.specs.declared.refusals.Refusal.{Refusal}
use Rattle.sva_step.specs.declared.refusals.Refusal.TheVariants as refusal
use Rattle.sva_step.specs.declared.steps.Step.TheVariants as step
use Rattle.sva_model.specs.State.{PasidState as DeviceState}
use Rattle.sva_model.specs.States.{is_ending}
use Rattle.sva_model.specs.Refusals.{Cause}
use Rattle.sva_model.specs.Wire.{DeviceWire}
use Rattle.sva_labels.specs.Finding.{device_of, pasid_state}
use Rattle.sva_labels.specs.Causes.{numbers_spent, is_busy_pasid}
use Rattle.sva_labels.specs.Host.{Decision, checked, decide_of}
use Rattle.sva_labels.specs.Moves.{Move, with_pasid, stale_of}
use Rattle.sva_labels.specs.Outcomes.{by_one, result_of}
use Rattle.sva_msg.specs.declared.messages.Kind.{Kind}
use Rattle.sva_msg.specs.declared.messages.Kind.TheVariants.{Marker}
use Rattle.sva_msg.specs.Bag.{InFlight}
use Rattle.sva_endpoint.specs.declared.permitted.Quitting.{Quitting}
use Rattle.sva_endpoint.specs.Tables.{Tables}
use Rattle.sva_endpoint.specs.Steps.{refusals_of_quit, quitting, after_quit}
use Rattle.sva_parts_by_labels.proofs.Groups.{quit_is_seen}
use Rattle.sva_host_state.specs.declared.host_state.HostState.TheInside.{Inside as HostState}
use Rattle.sva_host_state.specs.declared.host_state.Port.{Port}
use Rattle.sva_host_state.specs.Inner.{wire_of}
use Rattle.sva_host_state.specs.Steps.{Does, ByLabels, Sends}
use Rattle.sva_endpoint.proofs.CallFacts.{given}
use Rattle.sva_host_state.proofs.Deciding.{refused_by, passed, at_endpoint}
use Rattle.sva_host_state.proofs.Ports.{IsPort, with_tables}
use Rattle.sva_host_state.proofs.Devices.{device_there, unsent_done, sent_done}

listed : DeviceWire → (t : ℕ) → List Cause
listed d t = (not (is_ending (pasid_state d t)), refusal.NotStopping) ∷ (is_busy_pasid d t, refusal.Busy) ∷ []

causes_seen : (host : HostState) (e t : ℕ) (port : Port) → IsPort host e port → listed (device_of (wire_of host) e) t ≡ refusals_of_quit port.device t
unfolding listed
causes_seen host e t port is = ap (λ (d : DeviceWire). listed d t) (device_there host e port is) ∙ sym (quit_is_seen port.device t is.sound).refusals

decided : (host : HostState) (e t : ℕ) (port : Port) → IsPort host e port
    → decide_of (wire_of host) (step.Quit e t)
    ≡ checked (refusals_of_quit port.device t ++ numbers_spent host.in_flight.next 1 ∷ []) (result_of (wire_of host) (step.Quit e t))
unfolding listed
decided host e t port is =
    at_endpoint (wire_of host) e _ _ (result_of (wire_of host) (step.Quit e t)) is.there
    (ap (λ (cs : List Cause). cs ++ numbers_spent host.in_flight.next 1 ∷ []) (causes_seen host e t port is))

pub quit_refused : (host : HostState) (e t : ℕ) (port : Port) (x : Refusal) → IsPort host e port → Err x ≡ quitting port.device t
    → ByLabels (wire_of host) (step.Quit e t) (Err x) (wire_of host)
quit_refused host e t port x is refuses =
    subst (λ (d : Decision). Does d (wire_of host) (Err x) (wire_of host)) (sym (decided host e t port is))
    (refused_by _ (refusals_of_quit port.device t) (numbers_spent host.in_flight.next 1 ∷ []) (result_of (wire_of host) (step.Quit e t))
    (wire_of host) x (tt, (tt, tt)) (sym refuses))

may : (host : HostState) (e t : ℕ) (port : Port) (a : Quitting) → IsPort host e port → Ok a ≡ quitting port.device t
    → decide_of (wire_of host) (step.Quit e t) ≡ checked (numbers_spent host.in_flight.next 1 ∷ []) (by_one answer.Marker (Move.Quit e t))
may host e t port a is allows =
    decided host e t port is
    ∙ passed _ a (refusals_of_quit port.device t) (numbers_spent host.in_flight.next 1 ∷ []) (result_of (wire_of host) (step.Quit e t)) (sym allows)

-- the PASID is the one that was asked for
same_pasid : (tables : Tables) (t : ℕ) (a : Quitting) → Ok a ≡ quitting tables t → a.pasid ≡ t
same_pasid tables t a allows = ap (λ (b : Quitting). b.pasid) (sym (given (record { pasid = t }) a (refusals_of_quit tables t) (sym allows)))

pub left_by_quit : (before after : Tables) (t : ℕ) (a : Quitting) (tables : Tables) → Ok a ≡ quitting tables t → after ≡ after_quit before a.pasid
    → after ≡ after_quit before t
left_by_quit before after t a tables allows is = is ∙ ap (after_quit before) (same_pasid tables t a allows)

pub quit_unsent : (host : HostState) (e t : ℕ) (port : Port) (a : Quitting) (kind : Kind) (bag : InFlight) (x : Refusal) → IsPort host e port
    → Ok a ≡ quitting port.device t
    → Sends host.in_flight e kind 1 (Err x) bag
    → ByLabels (wire_of host) (step.Quit e t) (Err x) (wire_of (record host { in_flight = bag }))
quit_unsent host e t port a kind bag x is allows sends =
    unsent_done host (step.Quit e t) e kind 1 bag x _ (may host e t port a is allows) sends

pub quit_done : (host : HostState) (e t : ℕ) (port : Port) (a : Quitting) (kind : Kind) (bag : InFlight) → IsPort host e port
    → Ok a ≡ quitting port.device t → kind ≡ Marker a.pasid
    → Sends host.in_flight e kind 1 (Ok tt) bag
    → ByLabels (wire_of host) (step.Quit e t) (Ok answer.Marker)
    (wire_of (record (with_tables host e port (after_quit port.device t)) { in_flight = bag }))
quit_done host e t port a kind bag is allows said sends =
    sent_done host (step.Quit e t) e port (after_quit port.device t) (Marker t) bag answer.Marker (Move.Quit e t) _ is
    (may host e t port a is allows)
    (subst (λ (k : Kind). Sends host.in_flight e k 1 (Ok tt) bag) (said ∙ ap Marker (same_pasid port.device t a allows)) sends)
    refl
    ((quit_is_seen port.device t is.sound).after
    ∙ ap (λ (d : DeviceWire). with_pasid t DeviceState.Off (record d { groups = map (stale_of t) d.groups })) (sym (device_there host e port is)))
