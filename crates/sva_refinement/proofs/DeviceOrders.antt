-- The invalidations in a device's hands: the acts that leave them as they are.
use Rattle.std.proofs.Common.{◌≡◌, ◌≢◌, ◌⊎◌, inl, inr, refl, ap, sym, ◌∙◌, ℕ, zero, suc, ◌+◌, ◌<◌, ◌≤◌, Bool, true, false, arith}
use Rattle.std.specs.Prelude.{Option, Some, None, ◌&&◌, nat_lt, if◌then◌else◌}
use Rattle.std.proofs.lemmas.Bool.Decides.{nat_tests}
use Rattle.sva_model.specs.Words.{put, put_range, holds_of, unless}
use Rattle.sva_model.specs.State.{Mappings, Order, OrderState, Endpoint}
use Rattle.sva_model.specs.State.OrderState.{Queued, Sent, Taken, Lapsed, Completing, Done, Void}
use Rattle.sva_model.specs.State.UseState.{Running}
use Rattle.sva_model.specs.States.{is_unreleased, is_busy, is_taken, is_running, covers}
use Rattle.sva_model.specs.Unmappings.{submitted, range_at}
use Rattle.sva_model.specs.StateChanges.{binding_of, extent_of, void_queued, counted_if, is_last_left}
use Rattle.sva_model.specs.Acts.{act_alone, LocalAct}
use Rattle.sva_model.specs.Labels
use Rattle.sva_model.specs.Wire.{chain, taken_by, is_noted}
use Rattle.sva_labels.proofs.Words.{put-same, put-other, ℕ_cases}
use Rattle.sva_laws.proofs.Legal.{LegalLocalAct}
use Rattle.sva_laws.proofs.Resets.{Resets}
use Rattle.sva_laws.proofs.Bounds.{Bounds}
use Rattle.sva_laws.proofs.Labels.{Labels}
use Rattle.sva_laws.proofs.Orders.{Orders}
use Rattle.sva_refinement.proofs.DeviceTaken.{notes, taken_seen, taken_wire, taken_by_same, taken_same}
use Rattle.sva_refinement.proofs.DeviceTags.{busy_unreleased}
use Rattle.sva_refinement.proofs.DeviceSlots.{slot_made}
use Rattle.sva_labels.proofs.Lists.{tabulate_same}

-- an order that bears an ITag was submitted
pub busy_made : (p : Endpoint) (g k : ℕ) → Bounds g p → is_busy (p.order_state k) ≡ true → k < p.orders
busy_made p g k bo h = grind (arith, bo.order_state k)

pub not_busy : (p : Endpoint) (t j k : ℕ) (s : OrderState) → Labels p → p.order_state k ≡ s → is_busy s ≡ false → p.at_itag t ≡ Some j → j ≢ k
not_busy p t j k s la h un a e = absurd (cc (sym (la.itag_bears t j a).1 ∙ ap (λ x. is_busy (p.order_state x)) e ∙ ap is_busy h ∙ un))

-- no order that bears an ITag changes
pub orders_same :
    (ms : Mappings) (p : Endpoint) (order : ℕ → Order) (state : ℕ → OrderState)
    → ((t k : ℕ) → p.at_itag t ≡ Some k → (order k ≡ p.order k) × (state k ≡ p.order_state k))
    → taken_wire ms (record p { order = order; order_state = state }) ≡ taken_wire ms p
orders_same ms p order state h =
    taken_same ms ms p (record p { order = order; order_state = state }) (λ t. refl) (λ t k a. (h t k a).1)
    (λ t k uses a e.
    let o = (h t k a).0 in
    record {
      pasid = ap (λ x. p.pasid (binding_of x)) o;
      extent = ap extent_of o;
      slots =
          λ y.
          ap (λ x. holds_of (λ u. nat_lt u uses && (is_running (p.use_state u) && covers x (p.use_binding u) (ms.page (p.use_mapping u)))) (p.at_slot y)) o;
    })

pub taken_bound :
    (ms : Mappings) (g n : ℕ) (p : Endpoint) (b s t : ℕ) → LegalLocalAct ms g p (LocalAct.Bind b s t) → Orders p
    → taken_wire ms (act_alone p n (LocalAct.Bind b s t)) ≡ taken_wire ms p
taken_bound ms g n p b s t l or =
    taken_same ms ms p (act_alone p n (LocalAct.Bind b s t)) (λ x. refl) (λ x k a. refl)
    (λ x k uses a e. record {
      pasid = put-other p.pasid b t (binding_of (p.order k)) (other k (busy_unreleased p k or (ap is_busy e)));
      extent =
          refl;
      slots = λ y. refl;
    })
  where
    other : (k : ℕ) → is_unreleased (p.stage (binding_of (p.order k))) ≡ true → binding_of (p.order k) ≢ b
    other k a e = absurd (cc (sym a ∙ ap (λ c. is_unreleased (p.stage c)) e ∙ ap is_unreleased l.2))

pub taken_drained : (ms : Mappings) (g n : ℕ) (p : Endpoint) (b cookie : ℕ) → Bounds g p → Labels p → taken_wire ms (act_alone p n (LocalAct.Drain b cookie))
    ≡ taken_wire ms p
taken_drained ms g n p b cookie bo la =
    orders_same ms p (put p.order p.orders (Order.Wait cookie true)) (put p.order_state p.orders Queued)
    (λ t k a. let l = busy_made p g k bo (la.itag_bears t k a).1 in
    (put-other p.order p.orders (Order.Wait cookie true) k (omega arith), put-other p.order_state p.orders Queued k (omega arith)))

pub taken_invalidated :
    (ms : Mappings) (g n : ℕ) (p : Endpoint) (b cookie : ℕ) → Bounds g p → Labels p
    → taken_wire ms (act_alone p n (LocalAct.Invalidate b cookie)) ≡ taken_wire ms p
taken_invalidated ms g n p b cookie bo la =
    orders_same ms p (put (put p.order p.orders (Order.PasidOf b)) (suc p.orders) (Order.Wait cookie false))
    (put (put p.order_state p.orders Queued) (suc p.orders) Queued)
    (λ t k a. let l = busy_made p g k bo (la.itag_bears t k a).1 in (
      put-other (put p.order p.orders (Order.PasidOf b)) (suc p.orders) (Order.Wait cookie false) k (omega arith)
          ∙ put-other p.order p.orders (Order.PasidOf b) k (omega arith),
      put-other (put p.order_state p.orders Queued) (suc p.orders) Queued k (omega arith) ∙ put-other p.order_state p.orders Queued k (omega arith),
    ))

-- invalidations of ranges with the wait behind them, as an unmapping submits them
pub taken_submitted :
    (ms : Mappings) (g : ℕ) (p : Endpoint) (b q count order cookie : ℕ) → Bounds g p → Labels p
    → taken_wire ms (submitted p b q count order cookie) ≡ taken_wire ms p
taken_submitted ms g p b q count order cookie bo la =
    orders_same ms p (submitted p b q count order cookie).order (submitted p b q count order cookie).order_state
    (λ t k a. let l = busy_made p g k bo (la.itag_bears t k a).1 in (
      put-other (put_range p.order p.orders count (λ j. Order.RangeOf b (range_at q order j))) (p.orders + count) (Order.Wait cookie false) k (omega arith)
          ∙ older p.order count (λ j. Order.RangeOf b (range_at q order j)) k l,
      older p.order_state (suc count) (λ j. Queued) k l,
    ))
  where
    older : {A : Type 0} (f : ℕ → A) (many : ℕ) (new : ℕ → A) (k : ℕ) → k < p.orders → put_range f p.orders many new k ≡ f k
    older f many new k l = grind (arith, nat_tests)

pub taken_passed :
    (ms : Mappings) (g n : ℕ) (p : Endpoint) (k : ℕ) → LegalLocalAct ms g p (LocalAct.Pass k) → Labels p
    → taken_wire ms (act_alone p n (LocalAct.Pass k)) ≡ taken_wire ms p
taken_passed ms g n p k l la =
    orders_same ms p p.order (put p.order_state k Done) (λ t j a. (refl, put-other p.order_state k Done j (not_busy p t j k Queued la l.1 refl a)))

pub taken_reset : (ms : Mappings) (n : ℕ) (p : Endpoint) → Labels p → taken_wire ms (act_alone p n LocalAct.Reset) ≡ taken_wire ms p
taken_reset ms n p la = orders_same ms p p.order (λ k. void_queued (p.order_state k)) (λ t k a. (refl, busy_stays (p.order_state k) (la.itag_bears t k a).1))
  where
    busy_stays : (s : OrderState) → is_busy s ≡ true → void_queued s ≡ s
    busy_stays s h = grind arith

-- an order that is sent gets an ITag that was free, and isn't taken yet
pub taken_sent :
    (ms : Mappings) (g n : ℕ) (p : Endpoint) (k t : ℕ) → LegalLocalAct ms g p (LocalAct.Send k t) → Labels p
    → taken_wire ms (act_alone p n (LocalAct.Send k t)) ≡ taken_wire ms p
taken_sent ms g n p k t l la =
    tabulate_same 32 (λ x. chain (taken_seen ms (act_alone p n (LocalAct.Send k t))) (put p.at_itag t (Some k) x)) (λ x. chain (taken_seen ms p) (p.at_itag x))
    (λ x m. go x (ℕ_cases x t))
  where
    old : (x : ℕ) (o : Option ℕ) → p.at_itag x ≡ o → chain (taken_seen ms (act_alone p n (LocalAct.Send k t))) o ≡ chain (taken_seen ms p) o
    old x None h = refl
    old x (Some j) h =
        ap (taken_by ms (act_alone p n (LocalAct.Send k t)) j) (put-other p.order_state k Sent j (not_busy p x j k Queued la l.1 refl h))
        ∙ taken_by_same ms ms p (act_alone p n (LocalAct.Send k t)) j (p.order_state j) (λ uses e. record { pasid = refl; extent = refl; slots = λ y. refl })

    go : (x : ℕ) → (x ≡ t) ⊎ (x ≢ t)
        → chain (taken_seen ms (act_alone p n (LocalAct.Send k t))) (put p.at_itag t (Some k) x) ≡ chain (taken_seen ms p) (p.at_itag x)
    go x (inl e) =
        ap (λ y. chain (taken_seen ms (act_alone p n (LocalAct.Send k t))) (put p.at_itag t (Some k) y)) e
        ∙ ap (chain (taken_seen ms (act_alone p n (LocalAct.Send k t)))) (put-same p.at_itag t (Some k))
        ∙ ap (taken_by ms (act_alone p n (LocalAct.Send k t)) k) (put-same p.order_state k Sent)
        ∙ sym (ap (chain (taken_seen ms p)) l.3) ∙ sym (ap (λ y. chain (taken_seen ms p) (p.at_itag y)) e)
    go x (inr ne) = ap (chain (taken_seen ms (act_alone p n (LocalAct.Send k t)))) (put-other p.at_itag t (Some k) x ne) ∙ old x (p.at_itag x) refl

-- a use that begins isn't noted
pub taken_begun :
    (ms : Mappings) (g n : ℕ) (p : Endpoint) (r m t : ℕ) → LegalLocalAct ms g p (LocalAct.Begin r m t) → Bounds g p → Labels p
    → taken_wire ms (act_alone p n (LocalAct.Begin r m t)) ≡ taken_wire ms p
taken_begun ms g n p r m t l bo la =
    taken_same ms ms p (act_alone p n (LocalAct.Begin r m t)) (λ x. refl) (λ x k a. refl)
    (λ x k uses a e. record { pasid = refl; extent = refl; slots = λ y. slot k uses y (bo.noted k uses e) (ℕ_cases y t) })
  where
    late : (uses : ℕ) (b : Bool) → uses ≤ p.uses → (nat_lt p.uses uses && b) ≡ false
    late uses b h = grind (arith, nat_tests)

    old : (k uses y : ℕ) (o : Option ℕ) → p.at_slot y ≡ o
        → holds_of (is_noted ms (act_alone p n (LocalAct.Begin r m t)) k uses) o ≡ holds_of (is_noted ms p k uses) o
    old k uses y None h = refl
    old k uses y (Some u) h =
        let lt = slot_made p g u bo (la.slot_bears y u h).1 in
        let binding = put-other p.use_binding p.uses (p.request_binding r) u (omega arith) in
        let mapping = put-other p.use_mapping p.uses m u (omega arith) in
        let state = put-other p.use_state p.uses Running u (omega arith) in
        λ i. nat_lt u uses && (is_running (state i) && covers (p.order k) (binding i) (ms.page (mapping i)))

    slot : (k uses y : ℕ) → uses ≤ p.uses → (y ≡ t) ⊎ (y ≢ t) → notes ms (act_alone p n (LocalAct.Begin r m t)) k uses y ≡ notes ms p k uses y
    slot k uses y low (inl e) =
        ap (λ z. notes ms (act_alone p n (LocalAct.Begin r m t)) k uses z) e
        ∙ ap (holds_of (is_noted ms (act_alone p n (LocalAct.Begin r m t)) k uses)) (put-same p.at_slot t (Some p.uses))
        ∙ late uses (Labels.is_noted_running ms (act_alone p n (LocalAct.Begin r m t)) k p.uses) low
        ∙ sym (ap (holds_of (is_noted ms p k uses)) l.2) ∙ sym (ap (λ z. notes ms p k uses z) e)
    slot k uses y low (inr ne) =
        ap (holds_of (is_noted ms (act_alone p n (LocalAct.Begin r m t)) k uses)) (put-other p.at_slot t (Some p.uses) y ne) ∙ old k uses y (p.at_slot y) refl

-- one completion more: an order that is owed none any more frees its ITag, and it wasn't in the endpoint's hands
pub taken_counted : (ms : Mappings) (n : ℕ) (p : Endpoint) (c : ℕ) (names : ℕ → Bool) → taken_wire ms (act_alone p n (LocalAct.Count c names)) ≡ taken_wire ms p
taken_counted ms n p c names =
    tabulate_same 32 (λ t. chain (taken_seen ms (act_alone p n (LocalAct.Count c names))) ((act_alone p n (LocalAct.Count c names)).at_itag t))
    (λ t. chain (taken_seen ms p) (p.at_itag t)) (λ t m. go (p.at_itag t))
  where
    split : {B : Type 0} (f : ℕ → Option B) (b : Bool) (k : ℕ) → chain f (if b then None else Some k) ≡ (if b then None else f k)
    split f true k = refl
    split f false k = refl

    by_state :
        (k : ℕ) (b : Bool) (s : OrderState)
        → (if b && is_last_left s then None else taken_by ms (act_alone p n (LocalAct.Count c names)) k (counted_if b s)) ≡ taken_by ms p k s
    by_state k true Queued = refl
    by_state k true Sent = refl
    by_state k true (Taken uses) = refl
    by_state k true Lapsed = refl
    by_state k true (Completing count zero) = refl
    by_state k true (Completing count (suc zero)) = refl
    by_state k true (Completing count (suc (suc left))) = refl
    by_state k true Done = refl
    by_state k true Void = refl
    by_state k false s =
        taken_by_same ms ms p (act_alone p n (LocalAct.Count c names)) k s (λ uses e. record { pasid = refl; extent = refl; slots = λ y. refl })

    go :
        (o : Option ℕ)
        → chain (taken_seen ms (act_alone p n (LocalAct.Count c names))) (unless (λ k. names k && is_last_left (p.order_state k)) o) ≡ chain (taken_seen ms p) o
    go None = refl
    go (Some k) =
        split (taken_seen ms (act_alone p n (LocalAct.Count c names))) (names k && is_last_left (p.order_state k)) k ∙ by_state k (names k) (p.order_state k)

-- where a unit opens again, its endpoint has nothing in its hands since its reset
pub not_taken : (ms : Mappings) (p : Endpoint) (k : ℕ) (s : OrderState) → is_taken s ≡ false → taken_by ms p k s ≡ None
not_taken ms p k Queued h = refl
not_taken ms p k Sent h = refl
not_taken ms p k (Taken uses) h = absurd (cc)
not_taken ms p k Lapsed h = refl
not_taken ms p k (Completing count left) h = refl
not_taken ms p k Done h = refl
not_taken ms p k Void h = refl

pub taken_reopened :
    (ms : Mappings) (g n : ℕ) (p : Endpoint) (c : ℕ) → LegalLocalAct ms g p (LocalAct.Reopen c) → Resets n p
    → taken_wire ms (act_alone p n (LocalAct.Reopen c)) ≡ taken_wire ms p
taken_reopened ms g n p c l re =
    tabulate_same 32 (λ t. None) (λ t. chain (taken_seen ms p) (p.at_itag t)) (λ t m. go (p.at_itag t))
  where
    go : (o : Option ℕ) → None ≡ chain (taken_seen ms p) o
    go None = refl
    go (Some k) = sym (not_taken ms p k (p.order_state k) (re.untaken c k (re.up c l.0)))
