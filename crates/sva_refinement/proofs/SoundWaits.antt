-- At an open unit what a frame awaits is a wait in the unit's queue, and so is what a binding awaits whose PASID is
-- invalidated, unless that is done.
use Rattle.std.proofs.Common.{◌≡◌, ◌≢◌, ◌⊎◌, inl, inr, refl, ap, sym, subst, ◌∙◌, ℕ, ◌+◌, ◌<◌, ◌≤◌, Bool, true, false, arith}
use Rattle.std.specs.Prelude.{Option, Some, None, if◌then◌else◌, slice_get, slice_index_or}
use Rattle.std.proofs.lemmas.Bool.{lt-ltb}
use Rattle.sva_model.specs.Words.{all_below, tabulate}
use Rattle.sva_model.specs.State.{Owed, MappingState, Endpoint, World, Stage, Order, OrderState}
use Rattle.sva_model.specs.State.Owed.{Nothing, Ranges, Pasid, NextReset}
use Rattle.sva_model.specs.State.MappingState.{Unmade, Present, Gone}
use Rattle.sva_model.specs.State.Stage.{Unbound, Live, Stopping, Draining, Invalidating, Quiet, Lost, Released}
use Rattle.sva_model.specs.State.Order.{RangeOf, PasidOf, Wait}
use Rattle.sva_model.specs.State.OrderState.{Queued, Void}
use Rattle.sva_model.specs.State.Phase.{Open}
use Rattle.sva_model.specs.States.{is_queued, is_wait, is_done, answered, place}
use Rattle.sva_model.specs.Wire.{PlaceWire, BindingWire, number, cookie_number, target_of, target_wire, place_wire_by, stage_wire, descriptor, unit_wire}
use Rattle.sva_model.specs.Wire.{wire}
use Rattle.sva_model.specs.Wire.PlaceWire.{WithheldWire}
use Rattle.sva_model.specs.Wire.TargetWire.{Cookie}
use Rattle.sva_model.specs.Wire.StageWire.{InvalidatingWire}
use Rattle.sva_laws.specs.Waits.{AwaitsTarget, IsAwaited}
use Rattle.sva_laws.proofs.Orders.{Orders, is_queued_or_done}
use Rattle.sva_laws.proofs.Passed.{unreleased_bound}
use Rattle.sva_laws.proofs.Fronts.{Fronts, AllFronts}
use Rattle.sva_laws.proofs.Debts.{AllDebts}
use Rattle.sva_laws.proofs.Targets.{awaits, has_front}
use Rattle.sva_laws.proofs.Invariant.{Invariant}
use Rattle.sva_labels.proofs.Lists.{tabulate_at}
use Rattle.sva_refinement.proofs.PlacesByNumber.{seen_at, seen_by, gone_seen, place_seen}
use Rattle.sva_labels.specs.Finding.{unit_of, is_wait_done}
use Rattle.sva_labels.specs.Sound.{target_there, HasWait}
use Rattle.sva_refinement.proofs.EndpointViews.{unit_seen}
use Rattle.sva_refinement.proofs.LookedUnits.{invalidated_there}
use Rattle.sva_refinement.proofs.SoundLists.{table_get, seen_there}
use Rattle.sva_refinement.proofs.SoundPasids.{IsKeptAt}
use Rattle.sva_refinement.proofs.Withholding.{target_at}
use Rattle.sva_laws.proofs.Resets.{open_is as opened_is}
use Rattle.sva_labels.proofs.SoundRoom.{same_cookie}

-- a wait that is queued stands in the queue
wait_stands :
    (first : ℕ) (p : Endpoint) (k c : ℕ) (x : Bool) → k < p.orders → p.order k ≡ Wait c x → p.order_state k ≡ Queued
    → HasWait (unit_wire first p) (number first c)
wait_stands first p k c x l o q =
    let r = seen_there p.orders (λ j. is_queued (p.order_state j)) (λ j. descriptor first p (p.order j)) k l (ap is_queued q) in
    record { place = r.0; drain = x; stands = r.1 ∙ ap (λ z. Some (descriptor first p z)) o }

-- what is awaited at an open unit
queued_there : (first : ℕ) (p : Endpoint) (k c : ℕ) → p.phase ≡ Open → IsAwaited p k → c ≡ cookie_number first (p.order k) → HasWait (unit_wire first p) c
queued_there first p k c ph (l, d, x, o, f, s) e = go s
  where
    go : (p.order_state k ≡ Queued) ⊎ ((p.order_state k ≡ Void) × (p.phase ≢ Open)) → HasWait (unit_wire first p) c
    go (inl q) = subst (λ z. HasWait (unit_wire first p) z) (sym (e ∙ ap (cookie_number first) o)) (wait_stands first p k d x l o q)
    go (inr v) = absurd (v.1 ph)

owed_stands :
    (first : ℕ) (p : Endpoint) (v : Owed) (c : ℕ) → p.phase ≡ Open → AwaitsTarget p v → Some (target_of first p v) ≡ Some (Cookie c)
    → HasWait (unit_wire first p) c
owed_stands first p Nothing c ph a h = absurd a
owed_stands first p (Ranges k count resets) c ph a h =
    queued_there first p (k + count) c ph a (sym (same_cookie (cookie_number first (p.order (k + count))) c h))
owed_stands first p (Pasid k x resets false) c ph a h = queued_there first p x c ph a (sym (same_cookie (cookie_number first (p.order x)) c h))
owed_stands first p (Pasid k x resets true) c ph a h = absurd (a ph)
owed_stands first p (NextReset resets) c ph a h = absurd (a ph)

target_stands :
    (first n : ℕ) (p : Endpoint) (v : Owed) (c : ℕ) → p.phase ≡ Open → (answered p v ≡ false → AwaitsTarget p v) → target_wire first p v ≡ Some (Cookie c)
    → HasWait (unit_wire first p) c
target_stands first n p v c ph a h = go (answered p v) refl h
  where
    go : (b : Bool) → answered p v ≡ b → (if b then None else Some (target_of first p v)) ≡ Some (Cookie c) → HasWait (unit_wire first p) c
    go true e k = absurd (cc (k))
    go false e k = owed_stands first p v c ph (a e) k

-- by the latest mapping of a frame
awaited_of :
    (w : World) → AllFronts w → AllDebts w → w.config.endpoints ≤ 8 → (e c : ℕ) → e < w.config.endpoints → (w.part e).phase ≡ Open → (o : Option ℕ)
    → target_there e (seen_at w w.mappings.state o) ≡ Some (Cookie c)
    → HasWait (unit_wire w.config.first (w.part e)) c
awaited_of w fs ds most e c l ph None h = absurd (cc (h))
awaited_of w fs ds most e c l ph (Some m) h = by_state (w.mappings.state m) refl h
  where
    at_unit :
        (owed : ℕ → Owed) → w.mappings.state m ≡ Gone owed
        → slice_index_or (tabulate 8 (target_at w.config.first w.config.endpoints w.part owed)) e None ≡ Some (Cookie c)
        → HasWait (unit_wire w.config.first (w.part e)) c
    at_unit owed g k =
        target_stands w.config.first w.cookies (w.part e) (owed e) c ph (λ a. awaits w.cookies (w.part e) (owed e) (fs e) (ds m e owed g) a)
        (ap (λ b. if b then target_wire w.config.first (w.part e) (owed e) else None) (sym (lt-ltb e w.config.endpoints l))
        ∙ sym (tabulate_at 8 (target_at w.config.first w.config.endpoints w.part owed) e None (omega (arith, l, most)))
        ∙ k)

    by_answers :
        (owed : ℕ → Owed) → w.mappings.state m ≡ Gone owed → (b : Bool)
        → target_there e (gone_seen b (WithheldWire (tabulate 8 (target_at w.config.first w.config.endpoints w.part owed)))) ≡ Some (Cookie c)
        → HasWait (unit_wire w.config.first (w.part e)) c
    by_answers owed g true k = absurd (cc (k))
    by_answers owed g false k = at_unit owed g k

    by_state : (s : MappingState) → w.mappings.state m ≡ s → target_there e (seen_by w s) ≡ Some (Cookie c) → HasWait (unit_wire w.config.first (w.part e)) c
    by_state Unmade g k = absurd (cc (k))
    by_state Present g k = absurd (cc (k))
    by_state (Gone owed) g k = by_answers owed g (all_below w.config.endpoints (λ x. answered (w.part x) (owed x))) k

pub awaited_stands :
    (w : World) → AllFronts w → AllDebts w → w.config.endpoints ≤ 8
    → (e f c : ℕ) (place : PlaceWire)
    → e < w.config.endpoints
    → (unit_of (wire w) e).is_open ≡ true
    → slice_get (wire w).places f ≡ Some place
    → target_there e place ≡ Some (Cookie c)
    → HasWait (unit_of (wire w) e) c
awaited_stands w fs ds most e f c x l op h t =
    let seen = unit_seen w e l in
    let ph = opened_is (w.part e) (sym (ap (λ u. u.is_open) seen) ∙ op) in
    let is = (table_get w.config.frames (λ g. place_wire_by w g (place w g)) f x h).1 in
    subst (λ u. HasWait u c) (sym seen)
    (awaited_of w fs ds most e c l ph (w.mappings.latest f)
    (sym (ap (target_there e) (is ∙ place_seen w w.mappings f)) ∙ t))

-- Bindings whose PASID is invalidated.

queued_or_done : (z : OrderState) → is_queued_or_done z ≡ true → is_done z ≡ false → z ≡ Queued
queued_or_done z h i = grind arith

invalidating_waits :
    (first n : ℕ) (p : Endpoint) (b j k c : ℕ) → Orders p → Fronts n p → p.phase ≡ Open → p.stage b ≡ Invalidating j k
    → c ≡ cookie_number first (p.order k) → is_wait_done (unit_wire first p) c ≡ false
    → HasWait (unit_wire first p) c
invalidating_waits first n p b j k c or f ph st e h = go (p.order k) refl (or.invalidating b j k st).2
  where
    isnt_done : is_done (p.order_state k) ≡ false
    isnt_done = sym (invalidated_there first n b j k p (has_front n p or f) (or.invalidating b j k st).2 st)
        ∙ ap (λ z. is_wait_done (unit_wire first p) z) (sym e) ∙ h

    queued : p.order_state k ≡ Queued
    queued = queued_or_done (p.order_state k) (or.invalidating_state b j k st ph) isnt_done

    go : (o : Order) → p.order k ≡ o → is_wait o ≡ true → HasWait (unit_wire first p) c
    go (RangeOf d r) o w = absurd (cc (w))
    go (PasidOf d) o w = absurd (cc (w))
    go (Wait d x) o w =
        subst (λ z. HasWait (unit_wire first p) z) (sym (e ∙ ap (cookie_number first) o)) (wait_stands first p k d x (or.invalidating b j k st).3 o queued)

-- by its stage as a host keeps it
stage_waits :
    (first n : ℕ) (p : Endpoint) (b c : ℕ) → Orders p → Fronts n p → p.phase ≡ Open → (s : Stage) → p.stage b ≡ s
    → stage_wire first p s ≡ InvalidatingWire c → is_wait_done (unit_wire first p) c ≡ false
    → HasWait (unit_wire first p) c
stage_waits first n p b c or f ph (Invalidating j k) st h d =
    invalidating_waits first n p b j k c or f ph st (same_wait (cookie_number first (p.order k)) c h) d
  where
    same_wait : (x y : ℕ) → InvalidatingWire x ≡ InvalidatingWire y → y ≡ x
    same_wait x y h = cc
stage_waits first n p b c or f ph Unbound st h d = absurd (cc (h))
stage_waits first n p b c or f ph Live st h d = absurd (cc (h))
stage_waits first n p b c or f ph (Stopping m) st h d = absurd (cc (h))
stage_waits first n p b c or f ph (Draining k) st h d = absurd (cc (h))
stage_waits first n p b c or f ph Quiet st h d = absurd (cc (h))
stage_waits first n p b c or f ph Lost st h d = absurd (cc (h))
stage_waits first n p b c or f ph Released st h d = absurd (cc (h))

pub invalidating_stands :
    (w : World) → Invariant w → AllFronts w
    → (k c : ℕ) (b : BindingWire)
    → IsKeptAt w k b
    → b.stage ≡ InvalidatingWire c
    → (unit_of (wire w) b.endpoint).is_open ≡ true
    → is_wait_done (unit_of (wire w) b.endpoint) c ≡ false
    → HasWait (unit_of (wire w) b.endpoint) c
invalidating_stands w i fs k c b x st op nd =
    subst (λ u. HasWait u c) (sym seen)
    (stage_waits w.config.first w.cookies (w.part e) x.of c (i.parts e).orders (fs e)
    (opened_is (w.part e) (sym (ap (λ u. u.is_open) seen) ∙ op))
    ((w.part e).stage x.of) refl
    (sym (ap (λ z. z.stage) x.seen) ∙ st)
    (sym (ap (λ u. is_wait_done u c) seen) ∙ nd))
  where
    e : ℕ
    e = w.endpoint_of x.of

    seen : unit_of (wire w) b.endpoint ≡ unit_wire w.config.first (w.part e)
    seen = ap (unit_of (wire w)) (ap (λ z. z.endpoint) x.seen) ∙ unit_seen w e ((i.parts e).there x.of (unreleased_bound (w.part e) x.of x.passes))
