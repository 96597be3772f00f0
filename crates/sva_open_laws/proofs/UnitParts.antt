-- What the orders of a unit, and what an invalidation strikes, change of a part that is read off.
use Rattle.std.proofs.Common.{◌≡◌, refl, ap, ap₂, ◌∙◌, ℕ, suc, ◌+◌, Bool, true, false}
use Rattle.std.specs.Prelude.{◌&&◌, ◌||◌, nat_lt, List, [], ◌∷◌, ◌++◌, Option, Some, None, option_map}
use Rattle.sva_step.specs.Limits
use Rattle.sva_model.specs.Words.{tabulate}
use Rattle.sva_model.specs.State.{Endpoint, Mappings, Order, OrderState, Owed, Subject, World}
use Rattle.sva_model.specs.State.Order.{RangeOf, PasidOf, Wait}
use Rattle.sva_model.specs.State.OrderState.{Queued, Sent, Taken, Lapsed, Completing, Done, Void}
use Rattle.sva_model.specs.State.Owed.{Nothing, Ranges, Pasid, NextReset}
use Rattle.sva_model.specs.State.Subject.{StartOf, StopOf, FunctionReset, CompletionOf, InvalidateOf, ResponseOf, RequestOf, InvalidatedOf}
use Rattle.sva_model.specs.State.Subject.{PageRequestOf, MarkerOf, ResetDone}
use Rattle.sva_model.specs.States.{answered, is_arrived, is_busy, is_done, is_queued, is_running}
use Rattle.sva_labels.proofs.Lists.{all_same, tabulate_same}
use Rattle.sva_open.specs.declared.descriptors.Issued.TheVariants as issued
use Rattle.sva_open.specs.declared.messages.Message.TheVariants as message
use Rattle.sva_open.specs.declared.scopes.Scope.{Scope}
use Rattle.sva_open.specs.declared.works.Work.{Work}
use Rattle.sva_open.specs.declared.works.Work.TheVariants.{Taken as Busy}
use Rattle.sva_open_laws.specs.AsOpen.{arrived_of, descriptor_of, ended_of, flying_of, gather, held_of, if_there, one, owner_by, part_of}
use Rattle.sva_open_laws.specs.AsOpen.{request_of, row_at, scope_of, state_of, taken_of, use_of, user_by, user_of, where_so}
use Rattle.sva_open_laws.proofs.GatherLists.{gather_same}

-- an endpoint with the orders of another one, what it has asked for and holds, and what stands in its page request queue
abbrev pub ordering : Endpoint → Endpoint → Endpoint
ordering p q =
    record p {
      request = q.request;
      at_tag = q.at_tag;
      held = q.held;
      order_state = q.order_state;
      front = q.front;
      invalidate_message = q.invalidate_message;
      itag = q.itag;
      at_itag = q.at_itag;
      page_request = q.page_request;
      arrivals = q.arrivals;
      arrival = q.arrival;
      arrived_as = q.arrived_as;
      message = q.message;
      carried = q.carried;
    }

row_same : (g : ℕ) (p q : Endpoint) (t : ℕ) → row_at g (ordering p q) t ≡ row_at g p t
row_same g p q t =
    ap (λ n. record (row_at g (ordering p q) t) { owner = n }) (owner_same (p.at_pasid t))
    ∙ ap₂ (λ s n. record (row_at g (ordering p q) t) { owner = owner_by g p t (p.at_pasid t); state = s; user = n }) (state_same (user_of g p t))
    (user_same (user_of g p t))
  where
    owner_same : (o : Option ℕ) → owner_by g (ordering p q) t o ≡ owner_by g p t o
    owner_same None = refl
    owner_same (Some b) = refl

    state_same : (o : Option ℕ) → state_of (ordering p q) o ≡ state_of p o
    state_same None = refl
    state_same (Some b) = refl

    user_same : (o : Option ℕ) → user_by (ordering p q) o ≡ user_by p o
    user_same None = refl
    user_same (Some b) = refl

pub scope_same : (p q : Endpoint) (x : Order) → scope_of (ordering p q) x ≡ scope_of p x
scope_same p q (RangeOf b range) = refl
scope_same p q (PasidOf b) = refl
scope_same p q (Wait cookie drain) = refl

descriptor_same : (e : ℕ) (p q : Endpoint) (x : Order) → descriptor_of e (ordering p q) x ≡ descriptor_of e p x
descriptor_same e p q (RangeOf b range) = refl
descriptor_same e p q (PasidOf b) = refl
descriptor_same e p q (Wait cookie drain) = refl

-- an invalidation that is taken, by its ITag
pub taken_same : (p q : Endpoint) (s : OrderState) (k : ℕ) → q.itag k ≡ p.itag k → taken_of (ordering p q) s k ≡ taken_of p s k
taken_same p q Queued k h = refl
taken_same p q Sent k h = refl
taken_same p q (Taken uses) k h = ap₂ busy h (scope_same p q (p.order k))
  where
    busy : ℕ → Scope → List Work
    busy t x = Busy t x ∷ []
taken_same p q Lapsed k h = refl
taken_same p q (Completing count left) k h = refl
taken_same p q Done k h = refl
taken_same p q Void k h = refl

pub seen : (w : World) (e m : ℕ) (p q : Endpoint)
    → part_of (record w { messages = m }) e (ordering p q) ≡ record (part_of w e p) {
      requests = tabulate Limits.request_tags (λ t. option_map (request_of (ordering p q)) (q.at_tag t));
      held = gather p.requests (λ r. if_there (held_of w.mappings (ordering p q) r));
      works = gather p.uses (λ u. where_so (is_running (p.use_state u)) (use_of w.mappings p u))
          ++ gather p.orders (λ k. taken_of (ordering p q) (q.order_state k) k);
      queue = gather p.orders (λ k. where_so (is_queued (q.order_state k)) (descriptor_of e p (p.order k)));
      issued = gather p.orders (λ k. where_so (is_busy (q.order_state k)) (issued.Sent e (q.itag k)));
      arrived = gather q.arrivals (λ k. where_so (is_arrived (q.page_request (q.arrival k))) (arrived_of e p (q.arrival k)));
      flight = gather m (λ c. flying_of w.mappings (ordering p q) (q.message c));
    }
seen w e m p q =
    ap₂ (λ rows queue. record (part_of (record w { messages = m }) e (ordering p q)) { rows = rows; queue = queue })
    (tabulate_same 33 (row_at w.bindings (ordering p q)) (row_at w.bindings p) (λ t l. row_same w.bindings p q t))
    (gather_same p.orders (λ k. where_so (is_queued (q.order_state k)) (descriptor_of e (ordering p q) (p.order k)))
    (λ k. where_so (is_queued (q.order_state k)) (descriptor_of e p (p.order k)))
    (λ k l. ap (where_so (is_queued (q.order_state k))) (descriptor_same e p q (p.order k))))

-- ---- Messages in flight

-- of the orders that a message speaks of
abbrev pub OfOrders : (ℕ → Type 0) → Option Subject → Type 0
OfOrders P (Some (InvalidateOf k)) = P k
OfOrders P (Some (InvalidatedOf names)) = (k : ℕ) → names k ≡ true → P k
OfOrders P _ = Unit {0}

pub flying_same : (ms : Mappings) (p q : Endpoint) (o : Option Subject) → OfOrders (λ k. q.itag k ≡ p.itag k) o
    → flying_of ms (ordering p q) o ≡ flying_of ms p o
flying_same ms p q None h = refl
flying_same ms p q (Some (StartOf b)) h = refl
flying_same ms p q (Some (StopOf b)) h = refl
flying_same ms p q (Some FunctionReset) h = refl
flying_same ms p q (Some (CompletionOf r found)) h = refl
flying_same ms p q (Some (InvalidateOf k)) h = ap₂ (λ t s. one 0 p.resets (message.Invalidate t s)) h (scope_same p q (p.order k))
flying_same ms p q (Some (ResponseOf g code)) h = refl
flying_same ms p q (Some (RequestOf r)) h = refl
flying_same ms p q (Some (InvalidatedOf names)) h =
    gather_same p.orders (λ k. ended_of (ordering p q) (names k) k) (λ k. ended_of p (names k) k) (λ k l. ended_same k (names k) (h k))
  where
    ended_same : (k : ℕ) (b : Bool) → (b ≡ true → q.itag k ≡ p.itag k) → ended_of (ordering p q) b k ≡ ended_of p b k
    ended_same k true same = ap (λ t. one 0 p.resets (message.Invalidated t)) (same refl)
    ended_same k false same = refl
flying_same ms p q (Some (PageRequestOf r)) h = refl
flying_same ms p q (Some (MarkerOf b)) h = refl
flying_same ms p q (Some ResetDone) h = refl

-- where the same orders are done, the same is answered
pub answers_same : (p q : Endpoint) → ((k : ℕ) → is_done (q.order_state k) ≡ is_done (p.order_state k)) → q.resets ≡ p.resets
    → (x : Owed) → answered q x ≡ answered p x
answers_same p q states resets Nothing = refl
answers_same p q states resets (Ranges first count before) =
    ap₂ (λ a k. a || nat_lt before k)
    (all_same (suc count) (λ j. is_done (q.order_state (first + j))) (λ j. is_done (p.order_state (first + j))) (λ j l. states (first + j))) resets
answers_same p q states resets (Pasid invalidation wait before in_reset) =
    ap₂ (λ a k. a || nat_lt before k) (ap₂ (λ a b. a && b) (states invalidation) (states wait)) resets
answers_same p q states resets (NextReset before) = ap (λ k. nat_lt before k) resets
