-- What the frames of pages that are taken out wait for, unit by unit; and that what was withheld before waits on.
use Rattle.std.proofs.Common.{◌≡◌, ◌≢◌, refl, ap, sym, ◌∙◌, ℕ, zero, suc, ◌+◌, ◌<◌, ◌≤◌, Bool, true, false, arith}
use Rattle.std.specs.Prelude.{Some, None, Option, option_map, is_none, ◌&&◌, ◌||◌, not, nat_lt, if◌then◌else◌, List, [], ◌∷◌, ◌++◌}
use Rattle.std.specs.List.{list_all}
use Rattle.std.proofs.lemmas.Bool.Decides.{nat_tests}
use Rattle.std.proofs.lemmas.Bool.{lt-ltb, ltb-true}
use Rattle.sva_model.specs.Words.{put_range, all_below, tabulate}
use Rattle.sva_model.specs.State.{Owed, Endpoint, World, Stage, Order, OrderState}
use Rattle.sva_model.specs.State.Owed.{Nothing, Ranges, Pasid, NextReset}
use Rattle.sva_model.specs.State.MappingState.{Gone}
use Rattle.sva_model.specs.State.Stage.{Unbound, Live, Stopping, Draining, Invalidating, Quiet, Lost, Released}
use Rattle.sva_model.specs.State.Order.{RangeOf, PasidOf, Wait}
use Rattle.sva_model.specs.State.OrderState.{Done}
use Rattle.sva_model.specs.States.{is_open, is_before_invalidating, is_done, is_wait, answered}
use Rattle.sva_model.specs.Unmappings.{submits_at, owed_by, owed_by_stage, owed_by_unit, submitted, submitted_if, range_at}
use Rattle.sva_model.specs.Wire.{TargetWire, number, end_number, cookie_number, target_of, target_wire, stage_wire, binding_wire, unit_wire}
use Rattle.sva_model.specs.Wire.PlaceWire.{FreeWire, WithheldWire}
use Rattle.sva_model.specs.Wire.TargetWire.{Cookie, ResetEnd}
use Rattle.sva_laws.specs.Waits.{FitsDebt}
use Rattle.sva_labels.proofs.Words.{put-same, all_below-true}
use Rattle.sva_laws.proofs.Bounds.{Bounds}
use Rattle.sva_laws.proofs.Orders.{Orders}
use Rattle.sva_laws.proofs.Fronts.{Fronts}
use Rattle.sva_laws.proofs.Targets.{has_front}
use Rattle.sva_laws.proofs.Answered.{answered_submitted}
use Rattle.sva_labels.proofs.Words.{all_below-intro}
use Rattle.sva_refinement.proofs.PlacesByNumber.{gone_seen, seen_by}
use Rattle.sva_labels.specs.Moves.{place_for, target_by, target_by_stage}
use Rattle.sva_refinement.proofs.PlacesKept.{IsSeenSame, ranges_open, ranges_wait, pasid_open, pasid_waits}
use Rattle.sva_labels.proofs.Tests.{same_bool as same_both}
use Rattle.sva_labels.proofs.Tests.{not_below_itself}
use Rattle.sva_laws.proofs.Submitted.{old_order, old_state}
use Rattle.sva_refinement.proofs.LookedUnits.{below_end as below_front}

-- Where a frame is that waits for these.

all_append : {A : Type 0} (p : A → Bool) (xs : List A) (x : A) → list_all p (xs ++ x ∷ []) ≡ (if p x then list_all p xs else false)
all_append p [] x = go (p x)
  where
    go : (b : Bool) → (b && true) ≡ (if b then true else false)
    go true = refl
    go false = refl
all_append p (y ∷ ys) x = ap (λ b. p y && b) (all_append p ys x) ∙ go (p y) (p x)
  where
    go : (a b : Bool) → (a && (if b then list_all p ys else false)) ≡ (if b then a && list_all p ys else false)
    go true b = refl
    go false true = refl
    go false false = refl

all_table : {A : Type 0} (p : A → Bool) (n : ℕ) (f : ℕ → A) → list_all p (tabulate n f) ≡ all_below n (λ k. p (f k))
unfolding tabulate all_below
all_table p zero f = refl
all_table p (suc n) f = all_append p (tabulate n f) (f n) ∙ ap (λ b. if p (f n) then b else false) (all_table p n f)

-- what is waited for at each unit
abbrev pub target_at : (first endpoints : ℕ) → (ℕ → Endpoint) → (ℕ → Owed) → ℕ → Option TargetWire
target_at first endpoints part owed e = if nat_lt e endpoints then target_wire first (part e) (owed e) else None

pub seen_targets :
    (w : World) (owed : ℕ → Owed) → w.config.endpoints ≤ 8
    → seen_by w (Gone owed) ≡ place_for (tabulate 8 (target_at w.config.first w.config.endpoints w.part owed))
seen_targets w owed low =
    ap (λ b. gone_seen b (WithheldWire (tabulate 8 (target_at w.config.first w.config.endpoints w.part owed)))) none_left
    ∙ go (list_all is_none (tabulate 8 (target_at w.config.first w.config.endpoints w.part owed)))
  where
    at : ℕ → Option TargetWire
    at e = target_at w.config.first w.config.endpoints w.part owed e

    none_answers : (b : Bool) (t : TargetWire) → is_none (if b then None else Some t) ≡ b
    none_answers true t = refl
    none_answers false t = refl

    forth :
        all_below w.config.endpoints (λ e. answered (w.part e) (owed e)) ≡ true → (e : ℕ) (b : Bool) → nat_lt e w.config.endpoints ≡ b
        → is_none (if b then target_wire w.config.first (w.part e) (owed e) else None) ≡ true
    forth h e false k = refl
    forth h e true k =
        none_answers (answered (w.part e) (owed e)) (target_of w.config.first (w.part e) (owed e))
        ∙ all_below-true w.config.endpoints (λ e. answered (w.part e) (owed e)) h e (ltb-true e w.config.endpoints k)

    back : all_below 8 (λ e. is_none (at e)) ≡ true → (e : ℕ) → e < w.config.endpoints → answered (w.part e) (owed e) ≡ true
    back h e l =
        sym (none_answers (answered (w.part e) (owed e)) (target_of w.config.first (w.part e) (owed e)))
        ∙ sym (ap (λ b. is_none (if b then target_wire w.config.first (w.part e) (owed e) else None)) (lt-ltb e w.config.endpoints l))
        ∙ all_below-true 8 (λ e. is_none (at e)) h e (omega (arith, l, low))

    none_left :
        all_below w.config.endpoints (λ e. answered (w.part e) (owed e))
        ≡ list_all is_none (tabulate 8 (target_at w.config.first w.config.endpoints w.part owed))
    none_left =
        same_both (all_below w.config.endpoints (λ e. answered (w.part e) (owed e))) (all_below 8 (λ e. is_none (at e)))
        (λ h. all_below-intro 8 (λ e. is_none (at e)) (λ e l. forth h e (nat_lt e w.config.endpoints) refl))
        (λ h. all_below-intro w.config.endpoints (λ e. answered (w.part e) (owed e)) (back h))
        ∙ sym (all_table is_none 8 at)

    go :
        (b : Bool)
        → gone_seen b (WithheldWire (tabulate 8 (target_at w.config.first w.config.endpoints w.part owed)))
        ≡ (if b then FreeWire else WithheldWire (tabulate 8 (target_at w.config.first w.config.endpoints w.part owed)))
    go true = refl
    go false = refl

-- What an unmapping makes its frames wait for.

done_is : (z : OrderState) → is_done z ≡ true → z ≡ Done
done_is z h = grind arith

pub invalidating_done :
    (cookies first : ℕ) (p : Endpoint) (b k w : ℕ) → Orders p → Fronts cookies p → p.stage b ≡ Invalidating k w
    → nat_lt (cookie_number first (p.order w)) (end_number first p.front) ≡ is_done (p.order_state w)
invalidating_done cookies first p b k w or f st = go (p.order w) refl (or.invalidating b k w st).2
  where
    front : (c : ℕ) (x : Bool) → p.order w ≡ Wait c x → nat_lt c p.front ≡ is_done (p.order_state w)
    front c x h =
        let d = (has_front cookies p or f).invalidating b k w c x st h in
        same_both (nat_lt c p.front) (is_done (p.order_state w)) (λ l. ap is_done (d.1 (ltb-true c p.front l)))
        (λ z. lt-ltb c p.front (d.0 (done_is (p.order_state w) z)))

    go : (o : Order) → p.order w ≡ o → is_wait o ≡ true → nat_lt (cookie_number first o) (end_number first p.front) ≡ is_done (p.order_state w)
    go (Wait c x) h t = below_front first c p.front ∙ front c x h
    go (RangeOf d r) h t = absurd (cc (t))
    go (PasidOf d) h t = absurd (cc (t))

both_or : (a b : Bool) → (b ≡ true → a ≡ true) → ((a && b) || false) ≡ b
both_or a b h = grind arith

-- the ranges that it submits aren't done
ranges_wait_now : (p : Endpoint) (b q count order cookie : ℕ) → (submitted p b q count order cookie).order_state (p.orders + count) ≢ Done
ranges_wait_now p b q count order cookie h = grind (arith, nat_tests)

unit_target :
    (first : ℕ) (p : Endpoint) (b q count order cookie : ℕ) (o : Bool)
    → target_wire first (submitted_if (o && true) p (Some b) q count order cookie) (owed_by_unit p count o)
    ≡ Some (if o then Cookie (number first cookie) else ResetEnd)
unit_target first p b q count order cookie true =
    ap (λ z. if z then None else Some (target_of first (submitted p b q count order cookie) (Ranges p.orders count p.resets)))
    (ranges_wait (submitted p b q count order cookie) p.orders count p.resets refl (ranges_wait_now p b q count order cookie))
    ∙ ap (λ z. Some (Cookie (cookie_number first z)))
    (put-same (put_range p.order p.orders count (λ j. RangeOf b (range_at q order j))) (p.orders + count) (Wait cookie false))
unit_target first p b q count order cookie false = ap (λ z. if z then None else Some ResetEnd) (not_below_itself p.resets)

stage_target :
    (cookies first : ℕ) (p : Endpoint) (b q count order cookie : ℕ) → Orders p → Fronts cookies p → (s : Stage) → p.stage b ≡ s
    → target_wire first (submitted_if (is_open p.phase && is_before_invalidating s) p (Some b) q count order cookie) (owed_by_stage p count s)
    ≡ target_by_stage (unit_wire first p) (number first cookie) (stage_wire first p s)
stage_target cookies first p b q count order cookie or f Live st = unit_target first p b q count order cookie (is_open p.phase)
stage_target cookies first p b q count order cookie or f (Stopping marked) st = unit_target first p b q count order cookie (is_open p.phase)
stage_target cookies first p b q count order cookie or f (Draining wait) st = unit_target first p b q count order cookie (is_open p.phase)
stage_target cookies first p b q count order cookie or f (Invalidating k w) st =
    ap (λ z. target_wire first z (Pasid k w p.resets (not (is_open p.phase)))) (none_submitted (is_open p.phase))
    ∙ ap (λ z. if z then None else Some (target_of first p (Pasid k w p.resets (not (is_open p.phase))))) answers
    ∙ ap (λ z. if nat_lt (cookie_number first (p.order w)) (end_number first p.front) then None else Some z) (turned (is_open p.phase))
  where
    none_submitted : (o : Bool) → submitted_if (o && false) p (Some b) q count order cookie ≡ p
    none_submitted true = refl
    none_submitted false = refl

    answers :
        ((is_done (p.order_state k) && is_done (p.order_state w)) || nat_lt p.resets p.resets)
        ≡ nat_lt (cookie_number first (p.order w)) (end_number first p.front)
    answers =
        ap (λ z. (is_done (p.order_state k) && is_done (p.order_state w)) || z) (not_below_itself p.resets)
        ∙ both_or (is_done (p.order_state k)) (is_done (p.order_state w)) (λ h. ap is_done (or.invalidation_done b k w st (done_is (p.order_state w) h)))
        ∙ sym (invalidating_done cookies first p b k w or f st)

    turned :
        (o : Bool)
        → (if not o then ResetEnd else Cookie (cookie_number first (p.order w))) ≡ (if o then Cookie (cookie_number first (p.order w)) else ResetEnd)
    turned true = refl
    turned false = refl
stage_target cookies first p b q count order cookie or f Unbound st = refl
stage_target cookies first p b q count order cookie or f Quiet st = refl
stage_target cookies first p b q count order cookie or f Lost st = refl
stage_target cookies first p b q count order cookie or f Released st = refl

pub target_new :
    (cookies first e : ℕ) (p : Endpoint) (o : Option ℕ) (q count order cookie : ℕ) → Orders p → Fronts cookies p
    → target_wire first (submitted_if (submits_at p o) p o q count order cookie) (owed_by p count o)
    ≡ target_by (unit_wire first p) (number first cookie) (option_map (binding_wire first e p) o)
target_new cookies first e p None q count order cookie or f = refl
target_new cookies first e p (Some b) q count order cookie or f = stage_target cookies first p b q count order cookie or f (p.stage b) refl

-- What was withheld before waits on.

silent_still :
    (p : Endpoint) (b q count order cookie : ℕ) (v : Owed) → FitsDebt p v → answered p v ≡ false
    → answered (submitted p b q count order cookie) v ≡ false
silent_still p b q count order cookie Nothing d h = absurd (cc (h))
silent_still p b q count order cookie (Ranges first n resets) d h =
    let z = ranges_open p first n resets d.1 h in
    ranges_wait (submitted p b q count order cookie) first n resets z.0 (λ k. z.1 (sym (old_state p b q count order cookie (first + n) d.1.made) ∙ k))
silent_still p b q count order cookie (Pasid j x resets in_reset) d h =
    let z = pasid_open p j x resets in_reset d.1 h in
    pasid_waits (submitted p b q count order cookie) j x resets in_reset z.0 (λ k. z.1 (sym (old_state p b q count order cookie x d.1.made) ∙ k))
silent_still p b q count order cookie (NextReset resets) d h = h

target_still :
    (first : ℕ) (p : Endpoint) (b q count order cookie : ℕ) (v : Owed) → FitsDebt p v
    → target_of first (submitted p b q count order cookie) v ≡ target_of first p v
target_still first p b q count order cookie Nothing d = refl
target_still first p b q count order cookie (Ranges range n resets) d =
    ap (λ z. Cookie (cookie_number first z)) (old_order p b q count order cookie (range + n) d.1.made)
target_still first p b q count order cookie (Pasid k x resets true) d = refl
target_still first p b q count order cookie (Pasid k x resets false) d =
    ap (λ z. Cookie (cookie_number first z)) (old_order p b q count order cookie x d.1.made)
target_still first p b q count order cookie (NextReset resets) d = refl

pub seen_still :
    (g first : ℕ) (t : Bool) (p : Endpoint) (o : Option ℕ) (q count order cookie : ℕ) (v : Owed) → Bounds g p → FitsDebt p v
    → IsSeenSame first p (submitted_if t p o q count order cookie) v
seen_still g first true p (Some b) q count order cookie v bo d =
    record { answers = go (answered p v) refl; target = target_still first p b q count order cookie v d }
  where
    go : (z : Bool) → answered p v ≡ z → answered (submitted p b q count order cookie) v ≡ answered p v
    go true h = answered_submitted g true p (Some b) q count order cookie bo v h ∙ sym h
    go false h = silent_still p b q count order cookie v d h ∙ sym h
seen_still g first true p None q count order cookie v bo d = record { answers = refl; target = refl }
seen_still g first false p o q count order cookie v bo d = record { answers = refl; target = refl }
