-- The unit, where a binding begins, a wait or an invalidation is submitted, an order is sent, and a wait is passed: what is
-- submitted stands at the end of the queue, and what is sent or passed was its first.
use Rattle.std.proofs.Common.{◌≡◌, ◌≢◌, ◌⊎◌, inl, inr, refl, ap, ap₂, sym, ◌∙◌, ℕ, suc, ◌<◌, ◌≤◌, true, false, arith}
use Rattle.std.specs.Prelude.{Option, Some, None, option_map, List, [], ◌∷◌, ◌++◌, map, drop, slice_set}
use Rattle.sva_model.specs.Words.{put, select, tabulate}
use Rattle.sva_model.specs.State.{Mappings, Order, OrderState, Endpoint}
use Rattle.sva_model.specs.State.Order.{RangeOf, PasidOf, Wait}
use Rattle.sva_model.specs.State.OrderState.{Queued, Sent, Done, Void}
use Rattle.sva_model.specs.State.Stage.{Unbound}
use Rattle.sva_model.specs.States.{is_open, is_queued, is_busy, is_wait}
use Rattle.sva_model.specs.StateChanges.{binding_of, end_of}
use Rattle.sva_model.specs.Acts.{LocalAct, act_alone}
use Rattle.sva_model.specs.Wire.{number, end_number, cookie_number, descriptor, busy_wire, unit_wire, BusyWire, Descriptor}
use Rattle.sva_model.specs.Wire.BusyWire.{Fresh}
use Rattle.sva_model.specs.Wire.Descriptor.{RangeDescriptor, PasidDescriptor, WaitDescriptor}
use Rattle.sva_labels.proofs.Lists.{tabulate_set}
use Rattle.sva_labels.proofs.Words.{put-same, put-other, ℕ_cases}
use Rattle.sva_laws.proofs.Legal.{LegalLocalAct}
use Rattle.sva_laws.proofs.Bounds.{Bounds}
use Rattle.sva_laws.proofs.Labels.{Labels}
use Rattle.sva_laws.proofs.Orders.{Orders, is_undone, is_active, not_queued}
use Rattle.sva_refinement.proofs.Kept.{unit_moved}
use Rattle.sva_refinement.proofs.Named.{own_move}
use Rattle.sva_refinement.proofs.Picked.{picked_same, picked_one_more, picked_drop}
use Rattle.sva_refinement.proofs.UnitSubmitted.{unit_of, unit_same, borne_made, borne_same, cookie_end}

-- the queue and the ITags of a unit
abbrev pub queue_of : (first : ℕ) → Endpoint → List Descriptor
queue_of first p = map (λ k. descriptor first p (p.order k)) (select p.orders (λ k. is_queued (p.order_state k)))

abbrev pub busy_of : Endpoint → List (Option BusyWire)
busy_of p = tabulate 32 (λ t. option_map (λ k. busy_wire (p.order_state k)) (p.at_itag t))

-- what two parts with the same phase have at their units
pub units_same :
    (first : ℕ) (p q : Endpoint) (queue : List Descriptor) (busy : List (Option BusyWire)) (front waits_end : ℕ)
    → is_open q.phase ≡ is_open p.phase → queue_of first q ≡ queue → busy_of q ≡ busy → end_number first q.front ≡ front
    → end_number first q.waits_end ≡ waits_end → unit_wire first q ≡ unit_of (is_open p.phase) queue busy front waits_end
units_same first p q queue busy front waits_end o h b f w =
    ap (λ z. unit_of z (queue_of first q) (busy_of q) (end_number first q.front) (end_number first q.waits_end)) o
    ∙ unit_same (is_open p.phase) (queue_of first q) queue (busy_of q) busy (end_number first q.front) front (end_number first q.waits_end) waits_end h b f w

-- A binding begins: no order that is queued is of it.

queued_apart : (s : OrderState) → is_queued s ≡ true → is_undone s ≡ true
queued_apart s h = grind arith

pub not_bound : (p : Endpoint) (b d : ℕ) → p.stage b ≡ Unbound → is_active (p.stage d) ≡ true → d ≢ b
not_bound p b d u a e = absurd (cc (sym (ap (λ z. is_active (p.stage z)) e ∙ ap is_active u) ∙ a))

bind_queue :
    (ms : Mappings) (g first n : ℕ) (p : Endpoint) (b s t : ℕ) → LegalLocalAct ms g p (LocalAct.Bind b s t) → Orders p
    → queue_of first (act_alone p n (LocalAct.Bind b s t)) ≡ queue_of first p
bind_queue ms g first n p b s t l or =
    picked_same p.orders (λ k. descriptor first (act_alone p n (LocalAct.Bind b s t)) (p.order k)) (λ k. descriptor first p (p.order k))
    (λ k. is_queued (p.order_state k)) (λ k. is_queued (p.order_state k))
    (λ k m. refl)
    (λ k m q. go (p.order k) (or.undone_stage k (queued_apart (p.order_state k) q)))
  where
    go : (o : Order) → (is_wait o ≡ false → is_active (p.stage (binding_of o)) ≡ true) → descriptor first (act_alone p n (LocalAct.Bind b s t)) o
        ≡ descriptor first p o
    go (RangeOf d r) a = ap (λ z. RangeDescriptor z r) (put-other p.pasid b t d (not_bound p b d l.2 (a refl)))
    go (PasidOf d) a = ap (λ z. PasidDescriptor z) (put-other p.pasid b t d (not_bound p b d l.2 (a refl)))
    go (Wait c x) a = refl

pub unit_bind :
    (ms : Mappings) (g first n next e : ℕ) (p : Endpoint) (b s t : ℕ) → LegalLocalAct ms g p (LocalAct.Bind b s t) → Orders p
    → unit_wire first (act_alone p n (LocalAct.Bind b s t)) ≡ unit_moved next (unit_wire first p) (own_move first e ms p (LocalAct.Bind b s t))
unit_bind ms g first n next e p b s t l or =
    units_same first p (act_alone p n (LocalAct.Bind b s t)) (queue_of first p) (busy_of p) (end_number first p.front) (end_number first p.waits_end) refl
    (bind_queue ms g first n p b s t l or) refl refl refl

-- A wait with drain is submitted.

pub old_put : {A : Type 0} (f : ℕ → A) (i k : ℕ) (v : A) → k < i → put f i v k ≡ f k
old_put f i k v l = put-other f i v k (λ e. absurd (omega (arith, l, e)))

pub unit_drain :
    (ms : Mappings) (g first n next e : ℕ) (p : Endpoint) (b cookie : ℕ) → Bounds g p → Labels p → next ≡ number first cookie
    → unit_wire first (act_alone p n (LocalAct.Drain b cookie)) ≡ unit_moved next (unit_wire first p) (own_move first e ms p (LocalAct.Drain b cookie))
unit_drain ms g first n next e p b cookie bo la h =
    units_same first p q (queue_of first p ++ WaitDescriptor (number first cookie) true ∷ []) (busy_of p) (end_number first p.front)
    (suc (number first cookie)) refl
    (
    picked_one_more p.orders (λ k. descriptor first q (q.order k)) (λ k. is_queued (q.order_state k)) (ap is_queued (put-same p.order_state p.orders Queued))
    ∙ ap₂ (λ xs x. xs ++ x ∷ [])
    (
    picked_same p.orders (λ k. descriptor first q (q.order k)) (λ k. descriptor first p (p.order k)) (λ k. is_queued (q.order_state k))
    (λ k. is_queued (p.order_state k))
    (λ k l. ap is_queued (old_put p.order_state p.orders k Queued l))
    (λ k l x. ap (descriptor first p) (old_put p.order p.orders k (Wait cookie true) l))
    )
    (ap (descriptor first p) (put-same p.order p.orders (Wait cookie true)))
    )
    (borne_same 32 p.at_itag (λ k. busy_wire (q.order_state k)) (λ k. busy_wire (p.order_state k))
    (λ t k m. ap busy_wire (old_put p.order_state p.orders k Queued (borne_made g p bo la t k m))))
    refl
    (cookie_end first cookie)
    ∙ ap (λ z. unit_moved z (unit_wire first p) (own_move first e ms p (LocalAct.Drain b cookie))) (sym h)
  where
    q : Endpoint
    q = act_alone p n (LocalAct.Drain b cookie)

-- The invalidation of all pages is submitted, and a wait.

pub unit_invalidate :
    (ms : Mappings) (g first n next e : ℕ) (p : Endpoint) (b cookie : ℕ) → Bounds g p → Labels p → next ≡ number first cookie
    → unit_wire first (act_alone p n (LocalAct.Invalidate b cookie))
    ≡ unit_moved next (unit_wire first p) (own_move first e ms p (LocalAct.Invalidate b cookie))
unit_invalidate ms g first n next e p b cookie bo la h =
    units_same first p q (queue_of first p ++ PasidDescriptor (p.pasid b) ∷ WaitDescriptor (number first cookie) false ∷ []) (busy_of p)
    (end_number first p.front) (suc (number first cookie)) refl
    (
    picked_one_more (suc p.orders) (λ k. descriptor first q (q.order k)) (λ k. is_queued (q.order_state k))
    (ap is_queued (put-same (put p.order_state p.orders Queued) (suc p.orders) Queued))
    ∙ ap₂ (λ xs x. xs ++ x ∷ [])
    (
    picked_one_more p.orders (λ k. descriptor first q (q.order k)) (λ k. is_queued (q.order_state k)) (ap is_queued (new_state refl))
    ∙ ap₂ (λ xs x. xs ++ x ∷ [])
    (
    picked_same p.orders (λ k. descriptor first q (q.order k)) (λ k. descriptor first p (p.order k)) (λ k. is_queued (q.order_state k))
    (λ k. is_queued (p.order_state k))
    (λ k l. ap is_queued (old_state k l))
    (λ k l x. ap (descriptor first p) (old_order k l))
    )
    (ap (descriptor first p) (new_order refl))
    )
    (ap (descriptor first p) (put-same (put p.order p.orders (PasidOf b)) (suc p.orders) (Wait cookie false)))
    ∙ two (queue_of first p) (PasidDescriptor (p.pasid b)) (WaitDescriptor (number first cookie) false)
    )
    (borne_same 32 p.at_itag (λ k. busy_wire (q.order_state k)) (λ k. busy_wire (p.order_state k))
    (λ t k m. ap busy_wire (old_state k (borne_made g p bo la t k m))))
    refl
    (cookie_end first cookie)
    ∙ ap (λ z. unit_moved z (unit_wire first p) (own_move first e ms p (LocalAct.Invalidate b cookie))) (sym h)
  where
    q : Endpoint
    q = act_alone p n (LocalAct.Invalidate b cookie)

    old_state : (k : ℕ) → k < p.orders → put (put p.order_state p.orders Queued) (suc p.orders) Queued k ≡ p.order_state k
    old_state k l = old_put (put p.order_state p.orders Queued) (suc p.orders) k Queued (omega (arith, l)) ∙ old_put p.order_state p.orders k Queued l

    old_order : (k : ℕ) → k < p.orders → put (put p.order p.orders (PasidOf b)) (suc p.orders) (Wait cookie false) k ≡ p.order k
    old_order k l =
        old_put (put p.order p.orders (PasidOf b)) (suc p.orders) k (Wait cookie false) (omega (arith, l)) ∙ old_put p.order p.orders k (PasidOf b) l

    new_state : {k : ℕ} → k ≡ p.orders → put (put p.order_state p.orders Queued) (suc p.orders) Queued p.orders ≡ Queued
    new_state h = old_put (put p.order_state p.orders Queued) (suc p.orders) p.orders Queued (omega arith) ∙ put-same p.order_state p.orders Queued

    new_order : {k : ℕ} → k ≡ p.orders → put (put p.order p.orders (PasidOf b)) (suc p.orders) (Wait cookie false) p.orders ≡ PasidOf b
    new_order h = old_put (put p.order p.orders (PasidOf b)) (suc p.orders) p.orders (Wait cookie false) (omega arith) ∙ put-same p.order p.orders (PasidOf b)

    two : (xs : List Descriptor) (x y : Descriptor) → (xs ++ x ∷ []) ++ y ∷ [] ≡ xs ++ x ∷ y ∷ []
    two [] x y = refl
    two (z ∷ xs) x y = ap (λ zs. z ∷ zs) (two xs x y)

-- the first order of the queue is queued no more
sent_queue :
    (g first : ℕ) (p : Endpoint) (k : ℕ) (s : OrderState) → Bounds g p → p.order_state k ≡ Queued → is_queued s ≡ false
    → ((j : ℕ) → j < k → p.order_state j ≢ Queued)
    → map (λ j. descriptor first p (p.order j)) (select p.orders (λ j. is_queued (put p.order_state k s j))) ≡ drop 1 (queue_of first p)
sent_queue g first p k s bo h i none =
    picked_drop p.orders k (λ j. descriptor first p (p.order j)) (λ j. descriptor first p (p.order j)) (λ j. is_queued (p.order_state j))
    (λ j. is_queued (put p.order_state k s j))
    (made (bo.order_state k)) (ap is_queued h) (λ j l. not_queued (p.order_state j) (none j l))
    (ap is_queued (put-same p.order_state k s) ∙ i)
    (λ j l ne. ap is_queued (put-other p.order_state k s j ne))
    (λ j l x. refl)
  where
    made : (p.orders ≤ k → p.order_state k ≡ Void) → k < p.orders
    made v = grind (arith)

-- An order is sent: it is the first in the queue, and its ITag waits for completions.

pub unit_send :
    (ms : Mappings) (g first n next e : ℕ) (p : Endpoint) (k t : ℕ) → LegalLocalAct ms g p (LocalAct.Send k t)
    → ((j : ℕ) → j < k → p.order_state j ≢ Queued) → Bounds g p → Labels p
    → unit_wire first (act_alone p n (LocalAct.Send k t)) ≡ unit_moved next (unit_wire first p) (own_move first e ms p (LocalAct.Send k t))
unit_send ms g first n next e p k t l none bo la =
    units_same first p q (drop 1 (queue_of first p)) (slice_set (busy_of p) t (Some Fresh)) (end_number first p.front) (end_number first p.waits_end) refl
    (sent_queue g first p k Sent bo l.1 refl none)
    (tabulate_set 32 (λ z. option_map (λ j. busy_wire (p.order_state j)) (p.at_itag z))
    (λ z. option_map (λ j. busy_wire (q.order_state j)) (q.at_itag z)) t (Some Fresh) here other)
    refl
    refl
  where
    q : Endpoint
    q = act_alone p n (LocalAct.Send k t)

    here : option_map (λ j. busy_wire (q.order_state j)) (q.at_itag t) ≡ Some Fresh
    here = ap (option_map (λ j. busy_wire (q.order_state j))) (put-same p.at_itag t (Some k)) ∙ ap (λ s. Some (busy_wire s)) (put-same p.order_state k Sent)

    state : (j : ℕ) → is_busy (p.order_state j) ≡ true → q.order_state j ≡ p.order_state j
    state j b = put-other p.order_state k Sent j (λ x. absurd (cc (sym (ap (λ z. is_busy (p.order_state z)) x ∙ ap is_busy l.1) ∙ b)))

    at : (z : ℕ) (o : Option ℕ) → p.at_itag z ≡ o → option_map (λ j. busy_wire (q.order_state j)) o ≡ option_map (λ j. busy_wire (p.order_state j)) o
    at z None h = refl
    at z (Some j) h = ap (λ s. Some (busy_wire s)) (state j (la.itag_bears z j h).1)

    other : (z : ℕ) → z ≢ t → option_map (λ j. busy_wire (q.order_state j)) (q.at_itag z) ≡ option_map (λ j. busy_wire (p.order_state j)) (p.at_itag z)
    other z ne = ap (option_map (λ j. busy_wire (q.order_state j))) (put-other p.at_itag t (Some k) z ne) ∙ at z (p.at_itag z) refl

-- A wait is passed: it is the first in the queue, and it is below the front then.

pub unit_pass :
    (ms : Mappings) (g first n next e : ℕ) (p : Endpoint) (k : ℕ) → LegalLocalAct ms g p (LocalAct.Pass k) → Bounds g p
    → unit_wire first (act_alone p n (LocalAct.Pass k)) ≡ unit_moved next (unit_wire first p) (own_move first e ms p (LocalAct.Pass k))
unit_pass ms g first n next e p k l bo =
    units_same first p q (drop 1 (queue_of first p)) (busy_of p) (suc (cookie_number first (p.order k))) (end_number first p.waits_end) refl
    (sent_queue g first p k Done bo l.1 refl l.3)
    (borne_same 32 p.at_itag (λ j. busy_wire (q.order_state j)) (λ j. busy_wire (p.order_state j)) (λ t j m. state j))
    (front (p.order k) l.2)
    refl
  where
    q : Endpoint
    q = act_alone p n (LocalAct.Pass k)

    state : (j : ℕ) → busy_wire (put p.order_state k Done j) ≡ busy_wire (p.order_state j)
    state j = go (ℕ_cases j k)
      where
        go : (j ≡ k) ⊎ (j ≢ k) → busy_wire (put p.order_state k Done j) ≡ busy_wire (p.order_state j)
        go (inl x) =
            ap (λ z. busy_wire (put p.order_state k Done z)) x
            ∙ ap busy_wire (put-same p.order_state k Done)
            ∙ sym (ap (λ z. busy_wire (p.order_state z)) x ∙ ap busy_wire l.1)
        go (inr ne) = ap busy_wire (put-other p.order_state k Done j ne)

    front : (o : Order) → is_wait o ≡ true → end_number first (end_of o) ≡ suc (cookie_number first o)
    front (Wait c x) w = cookie_end first c
    front (RangeOf b r) w = absurd (cc (w))
    front (PasidOf b) w = absurd (cc (w))
