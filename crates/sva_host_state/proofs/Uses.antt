-- Uses of translations that an endpoint holds, by labels.
use Rattle.std.proofs.Common.{◌≡◌, refl, ap, sym, ◌∙◌, subst, ℕ, Bool}
use Rattle.std.specs.Prelude.{◌&&◌, is_none, Ok, Err, Some, List, [], ◌∷◌, ◌++◌, filter, not, slice_set}
use Rattle.sva_step.specs.declared.answers.Answer.{Answer}
use Rattle.sva_step.specs.declared.answers.Answer.TheVariants as answer
use Rattle.sva_step.specs.declared.refusals.Refusal.{Refusal}
use Rattle.sva_step.specs.declared.refusals.Refusal.TheVariants as refusal
use Rattle.sva_step.specs.declared.steps.Step.TheVariants as step
use Rattle.sva_model.specs.Refusals.{Cause, page_range, unless_refused}
use Rattle.sva_model.specs.Wire.{DeviceWire}
use Rattle.sva_model.specs.Wire.UseWire.{RunningWire}
use Rattle.sva_labels.specs.Finding.{device_of, lowest_label, cached, use_at, is_at_page}
use Rattle.sva_labels.specs.Causes.{not_started, not_held, is_read_only}
use Rattle.sva_labels.specs.Host.{Decision, checked, decide_of}
use Rattle.sva_labels.specs.Moves as moves
use Rattle.sva_labels.specs.Moves.{Move}
use Rattle.sva_labels.specs.Outcomes.{by_one, label, begin_result, end_answer, result_of}
use Rattle.sva_endpoint.specs.UseSlots.{slot_at}
use Rattle.sva_endpoint.specs.declared.permitted.Using.{Using}
use Rattle.sva_endpoint.specs.Tables.{Tables}
use Rattle.sva_endpoint.specs.Steps.{refusals_of_use, using, use_of, lowest_slot, after_begin_use, refusals_of_end, end_of, ending}
use Rattle.sva_endpoint.specs.Steps.{after_end_use, refusals_of_evict, evicting, after_evict}
use Rattle.sva_parts_by_labels.specs.DeviceLaws.{found_at}
use Rattle.sva_parts_by_labels.proofs.Uses.{use_is_seen, end_is_seen, evict_is_seen}
use Rattle.sva_host_state.specs.declared.host_state.HostState.TheInside.{Inside as HostState}
use Rattle.sva_host_state.specs.declared.host_state.Port.{Port}
use Rattle.sva_host_state.specs.Inner.{wire_of}
use Rattle.sva_host_state.specs.Steps.{Does, ByLabels}
use Rattle.sva_endpoint.proofs.CallFacts.{given}
use Rattle.sva_host_state.proofs.Deciding.{IsOther, refused_by, passed, all_clear, at_endpoint}
use Rattle.sva_host_state.proofs.Refusing.{is_other}
use Rattle.sva_host_state.proofs.Ports.{IsPort, with_tables}
use Rattle.sva_host_state.proofs.Devices.{device_there, device_done}

-- To begin a use.

uses : DeviceWire → (t q : ℕ) → Bool → List Cause
uses d t q x =
    page_range q 1
    ∷ not_started d t
    ∷ not_held d t q
    ∷ (x && is_read_only (cached d t q), refusal.ReadOnly)
    ∷ (is_none (lowest_label d.slots), refusal.NoUseSlot)
    ∷ []

uses_seen : (host : HostState) (e t q : ℕ) (x : Bool) (port : Port) → IsPort host e port → uses (device_of (wire_of host) e) t q x
    ≡ refusals_of_use port.device t q x
unfolding uses
uses_seen host e t q x port is = ap (λ (d : DeviceWire). uses d t q x) (device_there host e port is) ∙ sym (use_is_seen port.device t q x is.sound).refusals

use_decided : (host : HostState) (e t q : ℕ) (x : Bool) (port : Port) → IsPort host e port
    → decide_of (wire_of host) (step.BeginUse e t q x) ≡ checked (refusals_of_use port.device t q x ++ []) (result_of (wire_of host) (step.BeginUse e t q x))
unfolding uses
use_decided host e t q x port is =
    at_endpoint (wire_of host) e _ _ (result_of (wire_of host) (step.BeginUse e t q x)) is.there
    (ap (λ (cs : List Cause). cs ++ []) (uses_seen host e t q x port is))

pub use_refused : (host : HostState) (e t q : ℕ) (x : Bool) (port : Port) (r : Refusal) → IsPort host e port → Err r ≡ using port.device t q x
    → ByLabels (wire_of host) (step.BeginUse e t q x) (Err r) (wire_of host)
use_refused host e t q x port r is refuses =
    subst (λ (d : Decision). Does d (wire_of host) (Err r) (wire_of host)) (sym (use_decided host e t q x port is))
    (refused_by _ (refusals_of_use port.device t q x) [] (result_of (wire_of host) (step.BeginUse e t q x)) (wire_of host) r
    (tt, (tt, (tt, (tt, (tt, tt))))) (sym refuses))

-- the use that the test gives
permitted : Tables → (t q : ℕ) → Using
permitted tables t q = record { slot = lowest_slot tables; begun = use_of tables t q }

-- what the use leaves is told by its own PASID and page
pub left_by_use : (before after : Tables) (t q : ℕ) (x : Bool) (a : Using) (tables : Tables) → Ok a ≡ using tables t q x
    → after ≡ after_begin_use before a.begun.pasid a.begun.page
    → after ≡ after_begin_use before t q
unfolding permitted
left_by_use before after t q x a tables allows is =
    is
    ∙ ap (λ (b : Using). after_begin_use before b.begun.pasid b.begun.page) (sym (given (permitted tables t q) a (refusals_of_use tables t q x) (sym allows)))

pub use_done : (host : HostState) (e t q : ℕ) (x : Bool) (port : Port) (a : Using) → IsPort host e port → Ok a ≡ using port.device t q x
    → ByLabels (wire_of host) (step.BeginUse e t q x) (Ok (answer.Use a.slot a.begun.frame))
    (wire_of (with_tables host e port (after_begin_use port.device t q)))
unfolding uses permitted
use_done host e t q x port a is allows =
    let device = device_there host e port is in
    let seen = use_is_seen port.device t q x is.sound in
    let begun : Using = permitted port.device t q in
    let same : begun ≡ a = given begun a (refusals_of_use port.device t q x) (sym allows) in
    let clear = all_clear begun a (uses (device_of (wire_of host) e) t q x)
    (ap (λ (cs : List Cause). unless_refused cs begun) (uses_seen host e t q x port is) ∙ sym allows) in
    let slot = ap (λ (d : DeviceWire). lowest_label d.slots) device
    ∙ seen.slot (ap (λ (d : DeviceWire). is_none (lowest_label d.slots)) (sym device) ∙ clear.1.1.1.1.0) in
    let found = ap (λ (d : DeviceWire). cached d t q) device ∙ seen.found (ap (λ (d : DeviceWire). is_none (cached d t q)) (sym device) ∙ clear.1.1.0) in
    let n = lowest_slot port.device in
    let y = found_at port.device t q in
    subst (λ (b : Using). ByLabels (wire_of host) (step.BeginUse e t q x) (Ok (answer.Use b.slot b.begun.frame))
    (wire_of (with_tables host e port (after_begin_use port.device t q)))) same
    (device_done host (step.BeginUse e t q x) e port (after_begin_use port.device t q) (answer.Use n y.frame) (Move.Begin e n y) _ is
    (use_decided host e t q x port is
    ∙ passed begun a (refusals_of_use port.device t q x) [] (result_of (wire_of host) (step.BeginUse e t q x)) (sym allows)
    ∙ (λ i. checked [] (begin_result e (label (slot i)) (found i))))
    refl
    (seen.after ∙ ap (λ (d : DeviceWire). record d { slots = slice_set d.slots n (Some (RunningWire y)) }) (sym device)))

-- To end one.

ends : DeviceWire → (u : ℕ) → List Cause
ends d u = (is_none (use_at d u), refusal.NoSuchUse) ∷ []

ends_seen : (host : HostState) (e u : ℕ) (port : Port) → IsPort host e port → ends (device_of (wire_of host) e) u ≡ refusals_of_end port.device u
unfolding ends
ends_seen host e u port is = ap (λ (d : DeviceWire). ends d u) (device_there host e port is) ∙ sym (end_is_seen port.device u is.sound).refusals

end_decided : (host : HostState) (e u : ℕ) (port : Port) → IsPort host e port
    → decide_of (wire_of host) (step.EndUse e u) ≡ checked (refusals_of_end port.device u ++ []) (result_of (wire_of host) (step.EndUse e u))
unfolding ends
end_decided host e u port is =
    at_endpoint (wire_of host) e _ _ (result_of (wire_of host) (step.EndUse e u)) is.there
    (ap (λ (cs : List Cause). cs ++ []) (ends_seen host e u port is))

pub end_refused : (host : HostState) (e u : ℕ) (port : Port) (r : Refusal) → IsPort host e port → Err r ≡ ending port.device u
    → ByLabels (wire_of host) (step.EndUse e u) (Err r) (wire_of host)
end_refused host e u port r is refuses =
    subst (λ (d : Decision). Does d (wire_of host) (Err r) (wire_of host)) (sym (end_decided host e u port is))
    (refused_by _ (refusals_of_end port.device u) [] (result_of (wire_of host) (step.EndUse e u)) (wire_of host) r (tt, tt) (sym refuses))

pub end_done : (host : HostState) (e u : ℕ) (port : Port) (a : Answer) → IsPort host e port → Ok a ≡ ending port.device u
    → ByLabels (wire_of host) (step.EndUse e u) (Ok a) (wire_of (with_tables host e port (after_end_use port.device u)))
unfolding ends
end_done host e u port a is allows =
    let device = device_there host e port is in
    let seen = end_is_seen port.device u is.sound in
    let b = end_of (slot_at port.device.uses u) in
    let same : b ≡ a = given b a (refusals_of_end port.device u) (sym allows) in
    let clear = all_clear b a (ends (device_of (wire_of host) e) u) (ap (λ (cs : List Cause). unless_refused cs b) (ends_seen host e u port is) ∙ sym allows) in
    let said = seen.said (ap (λ (d : DeviceWire). is_none (use_at d u)) (sym device) ∙ clear.0)
    ∙ ap (λ (d : DeviceWire). end_answer (use_at d u)) (sym device) in
    device_done host (step.EndUse e u) e port (after_end_use port.device u) a (Move.End e u) _ is
    (end_decided host e u port is
    ∙ passed b a (refusals_of_end port.device u) [] (result_of (wire_of host) (step.EndUse e u)) (sym allows)
    ∙ ap (λ (z : Answer). checked [] (by_one z (Move.End e u))) (sym said ∙ same))
    refl
    (seen.after ∙ ap (λ (d : DeviceWire). moves.ended u d) (sym device))

-- To let go of a translation.

evicts : DeviceWire → (t q : ℕ) → List Cause
evicts d t q = page_range q 1 ∷ not_held d t q ∷ []

evicts_seen : (host : HostState) (e t q : ℕ) (port : Port) → IsPort host e port → evicts (device_of (wire_of host) e) t q ≡ refusals_of_evict port.device t q
unfolding evicts
evicts_seen host e t q port is = ap (λ (d : DeviceWire). evicts d t q) (device_there host e port is) ∙ sym (evict_is_seen port.device t q is.sound).refusals

evict_decided : (host : HostState) (e t q : ℕ) (port : Port) → IsPort host e port
    → decide_of (wire_of host) (step.Evict e t q) ≡ checked (refusals_of_evict port.device t q ++ []) (result_of (wire_of host) (step.Evict e t q))
unfolding evicts
evict_decided host e t q port is =
    at_endpoint (wire_of host) e _ _ (result_of (wire_of host) (step.Evict e t q)) is.there
    (ap (λ (cs : List Cause). cs ++ []) (evicts_seen host e t q port is))

pub evict_refused : (host : HostState) (e t q : ℕ) (port : Port) (r : Refusal) → IsPort host e port → Err r ≡ evicting port.device t q
    → ByLabels (wire_of host) (step.Evict e t q) (Err r) (wire_of host)
evict_refused host e t q port r is refuses =
    subst (λ (d : Decision). Does d (wire_of host) (Err r) (wire_of host)) (sym (evict_decided host e t q port is))
    (refused_by _ (refusals_of_evict port.device t q) [] (result_of (wire_of host) (step.Evict e t q)) (wire_of host) r (tt, (tt, tt)) (sym refuses))

pub evict_done : (host : HostState) (e t q : ℕ) (port : Port) → IsPort host e port → Ok tt ≡ evicting port.device t q
    → ByLabels (wire_of host) (step.Evict e t q) (Ok answer.Evicted) (wire_of (with_tables host e port (after_evict port.device t q)))
evict_done host e t q port is allows =
    let device = device_there host e port is in
    let seen = evict_is_seen port.device t q is.sound in
    device_done host (step.Evict e t q) e port (after_evict port.device t q) answer.Evicted (Move.Evict e t q) _ is
    (evict_decided host e t q port is
    ∙ passed tt tt (refusals_of_evict port.device t q) [] (result_of (wire_of host) (step.Evict e t q)) (sym allows))
    refl
    (seen.after ∙ ap (λ (d : DeviceWire). record d { cache = filter (λ x. not (is_at_page t q x)) d.cache }) (sym device))

-- None of the causes is want of memory.

pub use_other : (s : Tables) (t q : ℕ) (x : Bool) (r : Refusal) → Err r ≡ using s t q x → IsOther r
unfolding permitted
use_other s t q x r refuses = is_other (permitted s t q) (refusals_of_use s t q x) r (tt, (tt, (tt, (tt, (tt, tt))))) refuses

pub end_other : (s : Tables) (slot : ℕ) (r : Refusal) → Err r ≡ ending s slot → IsOther r
end_other s slot r refuses = is_other (end_of (slot_at s.uses slot)) (refusals_of_end s slot) r (tt, tt) refuses

pub evict_other : (s : Tables) (t q : ℕ) (r : Refusal) → Err r ≡ evicting s t q → IsOther r
evict_other s t q r refuses = is_other tt (refusals_of_evict s t q) r (tt, (tt, tt)) refuses
