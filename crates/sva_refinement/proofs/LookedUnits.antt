-- A unit looked up in what a host keeps: whether its queue has room, whether a wait is done, and what it gets where pages of
-- a space are taken out. It is what the definitions read.
use Rattle.std.proofs.Common.{◌≡◌, refl, ap, ap₂, ◌∙◌, ℕ, zero, suc, ◌+◌, ◌<◌, ◌≤◌, Bool, true, false, arith}
use Rattle.std.specs.Prelude.{◌↔◌, Option, Some, None, option_map, ◌&&◌, not, nat_lt, nat_le, if◌then◌else◌, is_some, length, slice_index_or}
use Rattle.std.proofs.lemmas.Bool.Decides.{nat_tests}
use Rattle.std.proofs.lemmas.Bool.{and_from, lt-ltb, ltb-true}
use Rattle.sva_model.specs.Words.{any_below, count_below}
use Rattle.sva_model.specs.State.{Stage, Order, OrderState, Endpoint, World}
use Rattle.sva_model.specs.State.Stage.{Unbound, Live, Stopping, Draining, Invalidating, Quiet, Lost, Released}
use Rattle.sva_model.specs.State.Order.{RangeOf, PasidOf, Wait}
use Rattle.sva_model.specs.State.OrderState.{Queued, Sent, Taken, Lapsed, Completing, Done, Void}
use Rattle.sva_model.specs.States as states
use Rattle.sva_model.specs.States.{is_open, is_done, is_queued, is_wait}
use Rattle.sva_model.specs.Unmappings as unmappings
use Rattle.sva_model.specs.Unmappings.{bound, waits_at, waits_by_stage, submits_at}
use Rattle.sva_model.specs.Refusals.{is_queue_short}
use Rattle.sva_model.specs.Labels
use Rattle.sva_model.specs.Wire.{TargetWire, number, end_number, cookie_number, stage_wire, binding_wire, descriptor, unit_wire, wire}
use Rattle.sva_laws.specs.Waits.{HasFront}
use Rattle.sva_labels.proofs.Words.{any_below-true, any_below-intro}
use Rattle.sva_labels.proofs.Counting.{count_same}
use Rattle.sva_laws.proofs.Invariant.{Invariant}
use Rattle.sva_labels.proofs.Tests.{first_holds, second_holds}
use Rattle.sva_labels.proofs.Lists.{tabulate_at}
use Rattle.sva_labels.specs.Finding.{unit_of, bound_at, is_wait_done, is_before_invalidating, has_room, submits, submits_by}
use Rattle.sva_labels.specs.Moves.{target_by, target_by_stage, cookie_at, targets_of}
use Rattle.sva_labels.specs.Causes.{waits_needed}
use Rattle.sva_labels.specs.Outcomes.{waits}
use Rattle.sva_refinement.proofs.Bound.{bound_is}
use Rattle.sva_refinement.proofs.EndpointViews.{unit_seen, endpoints_seen}
use Rattle.sva_refinement.proofs.LookedLists.{length_seen}
use Rattle.sva_refinement.proofs.LookedBindings.{both_ways}
use Rattle.sva_refinement.proofs.Lookups.{any_same}

-- Room in the queue.

pub room_there : (first k : ℕ) (p : Endpoint) → not (has_room (unit_wire first p) k) ≡ is_queue_short p k
room_there first k p =
    ap (λ n. not (nat_le (n + k) 64)) (length_seen (λ x. descriptor first p (p.order x)) p.orders (λ x. is_queued (p.order_state x)))
    ∙ over (Labels.queue_length p + k)
  where
    over : (n : ℕ) → not (nat_le n 64) ≡ nat_lt 64 n
    over n = both_ways (not (nat_le n 64)) (nat_lt 64 n) (λ h. grind (arith, nat_tests)) (λ h. grind (arith, nat_tests))

-- Waits: one is done where its cookie is below the front.

pub below_end : (first c n : ℕ) → nat_lt (first + c) (end_number first n) ≡ nat_lt c n
below_end first c zero = both_ways (nat_lt (first + c) 0) (nat_lt c 0) (λ h. grind (arith, nat_tests)) (λ h. grind (arith, nat_tests))
below_end first c (suc n) = both_ways (nat_lt (first + c) (first + suc n)) (nat_lt c (suc n)) (λ h. grind (arith, nat_tests)) (λ h. grind (arith, nat_tests))

pub wait_there :
    (first : ℕ) (p : Endpoint) (k : ℕ) → is_wait (p.order k) ≡ true
    → ((c : ℕ) (x : Bool) → p.order k ≡ Wait c x → (p.order_state k ≡ Done) ↔ (c < p.front))
    → is_wait_done (unit_wire first p) (cookie_number first (p.order k)) ≡ is_done (p.order_state k)
wait_there first p k wt h = go (p.order k) refl wt
  where
    state_done : (z : OrderState) → is_done z ≡ true → z ≡ Done
    state_done Done e = refl
    state_done Queued e = absurd (cc)
    state_done Sent e = absurd (cc)
    state_done (Taken n) e = absurd (cc)
    state_done Lapsed e = absurd (cc)
    state_done (Completing n m) e = absurd (cc)
    state_done Void e = absurd (cc)

    go : (o : Order) → p.order k ≡ o → is_wait o ≡ true → nat_lt (cookie_number first o) (end_number first p.front) ≡ is_done (p.order_state k)
    go (Wait c x) e t =
        below_end first c p.front
        ∙ both_ways (nat_lt c p.front) (is_done (p.order_state k)) (λ l. ap is_done ((h c x e).1 (ltb-true c p.front l)))
        (λ d. lt-ltb c p.front ((h c x e).0 (state_done (p.order_state k) d)))
    go (RangeOf b r) e t = absurd (cc (t))
    go (PasidOf b) e t = absurd (cc (t))

-- the wait of a binding that drains, and of one whose PASID is invalidated
pub drained_there :
    (first n b k : ℕ) (p : Endpoint) → HasFront n p → is_wait (p.order k) ≡ true → p.stage b ≡ Draining k
    → is_wait_done (unit_wire first p) (cookie_number first (p.order k)) ≡ is_done (p.order_state k)
drained_there first n b k p f wt h = wait_there first p k wt (λ c x e. f.draining b k c x h e)

pub invalidated_there :
    (first n b j k : ℕ) (p : Endpoint) → HasFront n p → is_wait (p.order k) ≡ true → p.stage b ≡ Invalidating j k
    → is_wait_done (unit_wire first p) (cookie_number first (p.order k)) ≡ is_done (p.order_state k)
invalidated_there first n b j k p f wt h = wait_there first p k wt (λ c x e. f.invalidating b j k c x h e)

-- Where pages of a space are taken out.

before_there : (first : ℕ) (p : Endpoint) (s : Stage) → is_before_invalidating (stage_wire first p s) ≡ states.is_before_invalidating s
before_there first p Unbound = refl
before_there first p Live = refl
before_there first p (Stopping marked) = refl
before_there first p (Draining k) = refl
before_there first p (Invalidating j k) = refl
before_there first p Quiet = refl
before_there first p Lost = refl
before_there first p Released = refl

pub submits_seen : (first e : ℕ) (p : Endpoint) (o : Option ℕ) → submits_by (unit_wire first p) (option_map (binding_wire first e p) o) ≡ submits_at p o
submits_seen first e p None = refl
submits_seen first e p (Some b) = ap (λ t. is_open p.phase && t) (before_there first p (p.stage b))

pub submits_there : (w : World) (s e : ℕ) → Invariant w → e < w.config.endpoints → submits (wire w) (number w.config.first s) e ≡ unmappings.submits w s e
submits_there w s e i l = ap₂ submits_by (unit_seen w e l) (bound_is w e s i) ∙ submits_seen w.config.first e (w.part e) (bound w e s)

pub needed_there : (w : World) (s : ℕ) → Invariant w → waits_needed (wire w) (number w.config.first s) ≡ count_below w.config.endpoints (unmappings.submits w s)
needed_there w s i =
    ap (λ n. count_below n (submits (wire w) (number w.config.first s))) (endpoints_seen w)
    ∙ count_same w.config.endpoints (submits (wire w) (number w.config.first s)) (unmappings.submits w s) (λ e l. submits_there w s e i l)

pub full_there :
    (w : World) (s k : ℕ) → Invariant w
    → any_below (length (wire w).parts) (λ e. submits (wire w) (number w.config.first s) e && not (has_room (unit_of (wire w) e) k))
    ≡ any_below w.config.endpoints (λ e. unmappings.submits w s e && is_queue_short (w.part e) k)
full_there w s k i =
    ap (λ n. any_below n (λ e. submits (wire w) (number w.config.first s) e && not (has_room (unit_of (wire w) e) k))) (endpoints_seen w)
    ∙ any_same w.config.endpoints (λ e. submits (wire w) (number w.config.first s) e && not (has_room (unit_of (wire w) e) k))
    (λ e. unmappings.submits w s e && is_queue_short (w.part e) k)
    (λ e l. ap₂ (λ a b. a && b) (submits_there w s e i l) (ap (λ u. not (has_room u k)) (unit_seen w e l) ∙ room_there w.config.first k (w.part e)))

-- Is there something to wait for?

target_seen :
    (first n cookie b : ℕ) (p : Endpoint) → HasFront n p → ((j k : ℕ) → p.stage b ≡ Invalidating j k → is_wait (p.order k) ≡ true) → (s : Stage)
    → p.stage b ≡ s → is_some (target_by_stage (unit_wire first p) cookie (stage_wire first p s)) ≡ waits_by_stage p s
target_seen first n cookie b p f wt Unbound h = refl
target_seen first n cookie b p f wt Live h = refl
target_seen first n cookie b p f wt (Stopping marked) h = refl
target_seen first n cookie b p f wt (Draining k) h = refl
target_seen first n cookie b p f wt (Invalidating j k) h =
    ap (λ d. is_some
    (if d then None else Some (if is_open p.phase then TargetWire.Cookie (cookie_number first (p.order k)) else TargetWire.ResetEnd)))
    (invalidated_there first n b j k p f (wt j k h) h)
    ∙ go (is_done (p.order_state k))
  where
    go :
        (d : Bool)
        → is_some (if d then None else Some (if is_open p.phase then TargetWire.Cookie (cookie_number first (p.order k)) else TargetWire.ResetEnd)) ≡ not d
    go true = refl
    go false = refl
target_seen first n cookie b p f wt Quiet h = refl
target_seen first n cookie b p f wt Lost h = refl
target_seen first n cookie b p f wt Released h = refl

waits_seen :
    (first n cookie e : ℕ) (p : Endpoint) → HasFront n p → ((b j k : ℕ) → p.stage b ≡ Invalidating j k → is_wait (p.order k) ≡ true)
    → (o : Option ℕ) → is_some (target_by (unit_wire first p) cookie (option_map (binding_wire first e p) o)) ≡ waits_at p o
waits_seen first n cookie e p f wt None = refl
waits_seen first n cookie e p f wt (Some b) = target_seen first n cookie b p f (wt b) (p.stage b) refl

-- numbers below a limit that is within another
within : (n m : ℕ) (p : ℕ → Bool) → n ≤ m → any_below m (λ e. nat_lt e n && p e) ≡ any_below n p
within n m p l = both_ways (any_below m (λ e. nat_lt e n && p e)) (any_below n p) forth back
  where
    forth : any_below m (λ e. nat_lt e n && p e) ≡ true → any_below n p ≡ true
    forth h =
        let x = any_below-true m (λ e. nat_lt e n && p e) h in
        any_below-intro n p x.0 (ltb-true x.0 n (first_holds (nat_lt x.0 n) (p x.0) x.2)) (second_holds (nat_lt x.0 n) (p x.0) x.2)

    back : any_below n p ≡ true → any_below m (λ e. nat_lt e n && p e) ≡ true
    back h =
        let x = any_below-true n p h in
        any_below-intro m (λ e. nat_lt e n && p e) x.0 (omega (arith, x.1, l)) (and_from (nat_lt x.0 n) (p x.0) (lt-ltb x.0 n x.1) x.2)

pub waits_there :
    (w : World) (s : ℕ) → Invariant w → ((e : ℕ) → HasFront w.cookies (w.part e)) → w.config.endpoints ≤ 8
    → waits (wire w) (number w.config.first s) ≡ any_below w.config.endpoints (unmappings.waits w s)
waits_there w s i f most =
    any_same 8 (λ e. is_some (slice_index_or (targets_of (wire w) (number w.config.first s)) e None))
    (λ e. nat_lt e w.config.endpoints && unmappings.waits w s e)
    (λ e l. ap is_some (tabulate_at 8 target e None l)
    ∙ ap (λ n. is_some
    (if nat_lt e n then target_by (unit_of (wire w) e) (cookie_at (wire w) (number w.config.first s) e)
    (bound_at (wire w) e (number w.config.first s)) else None)) (endpoints_seen w) ∙ go e (nat_lt e w.config.endpoints) refl)
    ∙ within w.config.endpoints 8 (unmappings.waits w s) most
  where
    target : ℕ → Option TargetWire
    target e =
        if nat_lt e (length (wire w).parts) then target_by (unit_of (wire w) e) (cookie_at (wire w) (number w.config.first s) e)
        (bound_at (wire w) e (number w.config.first s)) else None

    go :
        (e : ℕ) (b : Bool) → nat_lt e w.config.endpoints ≡ b
        → is_some
        (if b then target_by (unit_of (wire w) e) (cookie_at (wire w) (number w.config.first s) e) (bound_at (wire w) e (number w.config.first s))
        else None) ≡ (b && unmappings.waits w s e)
    go e false h = refl
    go e true h =
        let l : e < w.config.endpoints = ltb-true e w.config.endpoints h in
        ap₂ (λ u o. is_some (target_by u (cookie_at (wire w) (number w.config.first s) e) o)) (unit_seen w e l) (bound_is w e s i)
        ∙ waits_seen w.config.first w.cookies (cookie_at (wire w) (number w.config.first s) e) e (w.part e) (f e)
        (λ b j k st. ((i.parts e).orders.invalidating b j k st).2) (bound w e s)
