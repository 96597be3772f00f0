-- An endpoint asks for a translation, by labels.
use Rattle.std.proofs.Common.{◌≡◌, refl, ap, sym, ◌∙◌, subst, ℕ, false}
use Rattle.std.specs.Prelude.{is_none, Ok, Err, Some, List, [], ◌∷◌, ◌++◌, slice_set}
use Rattle.sva_step.specs.declared.answers.Answer.TheVariants as answer
use Rattle.sva_step.specs.declared.refusals.Refusal.{Refusal}
use Rattle.sva_step.specs.declared.refusals.Refusal.TheVariants as refusal
use Rattle.sva_step.specs.declared.steps.Step.TheVariants as step
use Rattle.sva_model.specs.Refusals.{Cause, page_range, unless_refused}
use Rattle.sva_model.specs.Wire.{DeviceWire}
use Rattle.sva_labels.specs.Finding.{device_of, lowest_label}
use Rattle.sva_labels.specs.Causes.{numbers_spent, not_started}
use Rattle.sva_labels.specs.Host.{Decision, checked, decide_of}
use Rattle.sva_labels.specs.Moves.{Move}
use Rattle.sva_labels.specs.Outcomes.{by_one, label, result_of}
use Rattle.sva_msg.specs.declared.messages.Kind.{Kind}
use Rattle.sva_msg.specs.declared.messages.Kind.TheVariants.{Request}
use Rattle.sva_msg.specs.Bag.{InFlight}
use Rattle.sva_endpoint.specs.declared.permitted.Asking.{Asking}
use Rattle.sva_endpoint.specs.Tables.{Tables}
use Rattle.sva_endpoint.specs.Steps.{refusals_of_ask, asking, lowest_tag, after_ask}
use Rattle.sva_parts_by_labels.proofs.Requests.{request_is_seen}
use Rattle.sva_host_state.specs.declared.host_state.HostState.TheInside.{Inside as HostState}
use Rattle.sva_host_state.specs.declared.host_state.Port.{Port}
use Rattle.sva_host_state.specs.Inner.{wire_of}
use Rattle.sva_host_state.specs.Steps.{Does, ByLabels, Sends}
use Rattle.sva_endpoint.proofs.CallFacts.{given}
use Rattle.sva_host_state.proofs.Deciding.{refused_by, passed, all_clear, at_endpoint}
use Rattle.sva_host_state.proofs.Ports.{IsPort, with_tables}
use Rattle.sva_host_state.proofs.Devices.{device_there, unsent_done, sent_done}

-- the causes of the device, by labels
listed : DeviceWire → (t q : ℕ) → List Cause
listed d t q = page_range q 1 ∷ not_started d t ∷ (is_none (lowest_label d.tags), refusal.NoTag) ∷ []

causes_seen : (host : HostState) (e t q : ℕ) (port : Port) → IsPort host e port → listed (device_of (wire_of host) e) t q ≡ refusals_of_ask port.device t q
unfolding listed
causes_seen host e t q port is = ap (λ (d : DeviceWire). listed d t q) (device_there host e port is) ∙ sym (request_is_seen port.device t q is.sound).refusals

decided : (host : HostState) (e t q : ℕ) (port : Port) → IsPort host e port
    → decide_of (wire_of host) (step.Ask e t q)
    ≡ checked (refusals_of_ask port.device t q ++ numbers_spent host.in_flight.next 1 ∷ []) (result_of (wire_of host) (step.Ask e t q))
unfolding listed
decided host e t q port is =
    at_endpoint (wire_of host) e _ _ (result_of (wire_of host) (step.Ask e t q)) is.there
    (ap (λ (cs : List Cause). cs ++ numbers_spent host.in_flight.next 1 ∷ []) (causes_seen host e t q port is))

pub ask_refused : (host : HostState) (e t q : ℕ) (port : Port) (x : Refusal) → IsPort host e port → Err x ≡ asking port.device t q
    → ByLabels (wire_of host) (step.Ask e t q) (Err x) (wire_of host)
ask_refused host e t q port x is refuses =
    subst (λ (d : Decision). Does d (wire_of host) (Err x) (wire_of host)) (sym (decided host e t q port is))
    (refused_by _ (refusals_of_ask port.device t q) (numbers_spent host.in_flight.next 1 ∷ []) (result_of (wire_of host) (step.Ask e t q))
    (wire_of host) x (tt, (tt, (tt, tt))) (sym refuses))

may : (host : HostState) (e t q : ℕ) (port : Port) (a : Asking) → IsPort host e port → Ok a ≡ asking port.device t q
    → decide_of (wire_of host) (step.Ask e t q) ≡ checked (numbers_spent host.in_flight.next 1 ∷ []) (result_of (wire_of host) (step.Ask e t q))
may host e t q port a is allows =
    decided host e t q port is
    ∙ passed _ a (refusals_of_ask port.device t q) (numbers_spent host.in_flight.next 1 ∷ []) (result_of (wire_of host) (step.Ask e t q)) (sym allows)

-- the request that the test gives
asked : Tables → (t q : ℕ) → Asking
asked tables t q = record { tag = lowest_tag tables; pasid = t; page = q }

as_asked : (tables : Tables) (t q : ℕ) (a : Asking) → Ok a ≡ asking tables t q → asked tables t q ≡ a
unfolding asked
as_asked tables t q a allows = given (asked tables t q) a (refusals_of_ask tables t q) (sym allows)

-- what the request leaves is told by its own PASID and page
pub left_by_ask : (before after : Tables) (t q : ℕ) (a : Asking) (tables : Tables) → Ok a ≡ asking tables t q → after ≡ after_ask before a.pasid a.page
    → after ≡ after_ask before t q
unfolding asked
left_by_ask before after t q a tables allows is =
    is ∙ ap (λ (b : Asking). after_ask before b.pasid b.page) (sym (as_asked tables t q a allows))

pub ask_unsent : (host : HostState) (e t q : ℕ) (port : Port) (a : Asking) (kind : Kind) (bag : InFlight) (x : Refusal) → IsPort host e port
    → Ok a ≡ asking port.device t q
    → Sends host.in_flight e kind 1 (Err x) bag
    → ByLabels (wire_of host) (step.Ask e t q) (Err x) (wire_of (record host { in_flight = bag }))
ask_unsent host e t q port a kind bag x is allows sends =
    unsent_done host (step.Ask e t q) e kind 1 bag x _ (may host e t q port a is allows) sends

pub ask_done : (host : HostState) (e t q : ℕ) (port : Port) (a : Asking) (kind : Kind) (bag : InFlight) → IsPort host e port
    → Ok a ≡ asking port.device t q → kind ≡ Request a.tag a.pasid a.page
    → Sends host.in_flight e kind 1 (Ok tt) bag
    → ByLabels (wire_of host) (step.Ask e t q) (Ok (answer.Tag a.tag))
    (wire_of (record (with_tables host e port (after_ask port.device t q)) { in_flight = bag }))
unfolding listed asked
ask_done host e t q port a kind bag is allows said sends =
    let device = device_there host e port is in
    let seen = request_is_seen port.device t q is.sound in
    let same = as_asked port.device t q a allows in
    let clear = all_clear (asked port.device t q) a (listed (device_of (wire_of host) e) t q)
    (ap (λ (cs : List Cause). unless_refused cs (asked port.device t q)) (causes_seen host e t q port is) ∙ sym allows) in
    let tag = ap (λ (d : DeviceWire). lowest_label d.tags) device
    ∙ seen.tag (ap (λ (d : DeviceWire). is_none (lowest_label d.tags)) (sym device) ∙ clear.1.1.0) in
    let n = lowest_tag port.device in
    subst (λ (b : Asking). ByLabels (wire_of host) (step.Ask e t q) (Ok (answer.Tag b.tag))
    (wire_of (record (with_tables host e port (after_ask port.device t q)) { in_flight = bag }))) same
    (sent_done host (step.Ask e t q) e port (after_ask port.device t q) (Request n t q) bag (answer.Tag n) (Move.Ask e t q n) _ is
    (may host e t q port a is allows
    ∙ ap (λ l. checked (numbers_spent host.in_flight.next 1 ∷ []) (by_one (answer.Tag (label l)) (Move.Ask e t q (label l)))) tag)
    (subst (λ (k : Kind). Sends host.in_flight e k 1 (Ok tt) bag) (said ∙ ap (λ (b : Asking). Request b.tag b.pasid b.page) (sym same)) sends)
    refl
    (seen.after ∙ ap (λ (d : DeviceWire). record d { tags = slice_set d.tags n (Some (record { pasid = t; page = q; is_doomed = false })) }) (sym device)))
