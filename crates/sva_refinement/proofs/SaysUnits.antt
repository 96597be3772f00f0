-- The steps at a unit by labels, pump and reset: they refuse what the steps by names refuse, and answer and move what these
-- do.
use Rattle.std.proofs.Common.{◌≡◌, ◌⊎◌, inl, inr, refl, ap, ap₂, sym, ◌∙◌, ℕ, suc, ◌<◌, ◌≤◌, Bool, true, false, arith}
use Rattle.std.specs.Prelude as prelude
use Rattle.std.specs.Prelude.{Option, Some, None, option_map, ◌&&◌, ◌||◌, not, ◌==◌, nat_lt, is_none, List, [], ◌∷◌, map, length}
use Rattle.std.proofs.lemmas.Bool.Decides.{nat_tests}
use Rattle.std.proofs.lemmas.Bool.{not-false, not-true}
use Rattle.sva_step.specs.declared.answers.Answer.TheVariants as answer
use Rattle.sva_step.specs.declared.refusals.Refusal.TheVariants as refusal
use Rattle.sva_step.specs.declared.steps.Step.TheVariants as step
use Rattle.sva_model.specs.Words as words
use Rattle.sva_model.specs.Words.{is_some, if_found, lowest, any_below, count_below, select}
use Rattle.sva_model.specs.State.{Order, Endpoint, World}
use Rattle.sva_model.specs.State.Order.{RangeOf, PasidOf, Wait}
use Rattle.sva_model.specs.State.OrderState.{Void}
use Rattle.sva_model.specs.States.{Extent, is_queued, is_busy, is_wait}
use Rattle.sva_model.specs.States.Extent.{Pages, AllPages}
use Rattle.sva_model.specs.StateChanges.{binding_of, extent_of}
use Rattle.sva_model.specs.Refusals as names
use Rattle.sva_model.specs.Refusals.{Cause, refusals}
use Rattle.sva_model.specs.Outcomes as outcomes
use Rattle.sva_model.specs.Outcomes.{outcome, head_outcome, pump_outcome, send_outcome}
use Rattle.sva_model.specs.Labels
use Rattle.sva_model.specs.Wire.{Descriptor, number, cookie_number, descriptor, busy_wire, unit_wire, page_request_wire, page_queue_wire, part_wire, wire}
use Rattle.sva_labels.proofs.Words.{put-same, put-other, lowest_cases, lowest_below, any_below-true, any_below-false, any_below-intro}
use Rattle.sva_labels.proofs.Counting.{count_zero, count_off}
use Rattle.sva_laws.proofs.Labels as labels
use Rattle.sva_laws.proofs.Bounds.{Bounds}
use Rattle.sva_laws.proofs.Invariant.{Invariant}
use Rattle.sva_labels.proofs.Tests.{is_less}
use Rattle.sva_labels.specs.Finding.{unit_of, lowest_label, is_some_busy}
use Rattle.sva_labels.specs.Moves.{Move}
use Rattle.sva_labels.specs.Causes.{no_such_endpoint, resetting, lacks, is_invalidation, sends_invalidate}
use Rattle.sva_labels.specs.Outcomes.{by_one, send_result, wait_result, may_pass, pump_result}
use Rattle.sva_refinement.proofs.Alike.{IsAlike, alike_same, alike_more, SaysAlike, result_by}
use Rattle.sva_refinement.proofs.EndpointViews.{part_seen, unit_seen, endpoint_cause}
use Rattle.sva_refinement.proofs.LookedBindings.{both_ways}
use Rattle.sva_refinement.proofs.LookedLists.{select_none, select_first, length_seen}
use Rattle.sva_refinement.proofs.Lookups.{any_table, any_same, label_seen, no_label, seen_none, seen_some}
use Rattle.sva_refinement.proofs.SaysBindings.{reset_cause}

-- an endpoint that isn't there is refused first
pub at_endpoint :
    (w : World) (e : ℕ) (cs ds : List Cause) → (e < w.config.endpoints → IsAlike cs ds)
    → IsAlike (no_such_endpoint (wire w) e ∷ cs) (names.no_such_endpoint w e ∷ ds)
at_endpoint w e cs ds h =
    alike_more (no_such_endpoint (wire w) e) (names.no_such_endpoint w e) cs ds (endpoint_cause w e)
    (λ k. h (is_less e w.config.endpoints (sym (ap (λ c. c.0) (endpoint_cause w e)) ∙ k)))

pub reset_says : (w : World) (e : ℕ) → SaysAlike w (step.Reset e)
reset_says w e =
    record {
      alike = at_endpoint w e (resetting (wire w) e ∷ names.messages_spent w 1 ∷ []) (names.resetting w e ∷ names.messages_spent w 1 ∷ [])
          (λ l. alike_same (resetting (wire w) e ∷ names.messages_spent w 1 ∷ []) (names.resetting w e ∷ names.messages_spent w 1 ∷ [])
          (ap (λ c. c ∷ names.messages_spent w 1 ∷ []) (reset_cause w e l)));
      result = λ k. refl;
    }

-- The head of those that pass, each seen by a function.

pub none_picked : {A : Type 0} (f : ℕ → A) (n : ℕ) (p : ℕ → Bool) → any_below n p ≡ false → map f (select n p) ≡ []
none_picked f n p h = ap (map f) (select_none n p (any_below-false n p h))

pub some_picked : {A : Type 0} (f : ℕ → A) (n : ℕ) (p : ℕ → Bool) → any_below n p ≡ true → (rest : List A) × (map f (select n p) ≡ f (lowest n p) ∷ rest)
some_picked f n p h =
    let x = any_below-true n p h in
    let s = select_first n p (lowest_below n p x.0 x.1 x.2).0 in
    (map f s.0, ap (map f) s.1)

-- none passes where none is counted
pub count_is_none : (n : ℕ) (p : ℕ → Bool) → (count_below n p == 0) ≡ not (any_below n p)
count_is_none n p = go (any_below n p) refl
  where
    is_none_test : (c : ℕ) → c ≡ 0 → (c == 0) ≡ true
    is_none_test c e = grind (arith, nat_tests)

    isnt_none_test : (c d : ℕ) → c ≡ suc d → (c == 0) ≡ false
    isnt_none_test c d e = grind (arith, nat_tests)

    go : (b : Bool) → any_below n p ≡ b → (count_below n p == 0) ≡ not b
    go false h = is_none_test (count_below n p) (count_zero n p (any_below-false n p h))
    go true h =
        let x = any_below-true n p h in
        isnt_none_test (count_below n p) (count_below n (words.put p x.0 false))
        (count_off n p (words.put p x.0 false) x.0 x.1 x.2 (put-same p x.0 false) (λ d ne. sym (put-other p x.0 false d ne)))

-- Pump.

queue_none : (first : ℕ) (p : Endpoint) → Labels.is_queue_empty p ≡ true → (unit_wire first p).queue ≡ []
queue_none first p h =
    none_picked (λ k. descriptor first p (p.order k)) p.orders (λ k. is_queued (p.order_state k))
    (not-true (any_below p.orders (λ k. is_queued (p.order_state k))) h)

queue_head :
    (first : ℕ) (p : Endpoint) → Labels.is_queue_empty p ≡ false
    → (rest : List Descriptor) × ((unit_wire first p).queue ≡ descriptor first p (p.order (Labels.head p)) ∷ rest)
queue_head first p h =
    some_picked (λ k. descriptor first p (p.order k)) p.orders (λ k. is_queued (p.order_state k))
    (not-false (any_below p.orders (λ k. is_queued (p.order_state k))) h)

head_kind : (first : ℕ) (p : Endpoint) (o : Order) (rest : List Descriptor) → is_invalidation (descriptor first p o ∷ rest) ≡ not (is_wait o)
head_kind first p (RangeOf b r) rest = refl
head_kind first p (PasidOf b) rest = refl
head_kind first p (Wait c x) rest = refl

some_label : {A : Type 0} (o : Option A) → prelude.is_some o ≡ not (is_none o)
some_label None = refl
some_label (Some a) = refl

label_there : (first : ℕ) (p : Endpoint) → prelude.is_some (lowest_label (unit_wire first p).busy) ≡ not (Labels.lowest_label 32 p.at_itag == 32)
label_there first p =
    some_label (lowest_label (unit_wire first p).busy)
    ∙ ap not
    (no_label 32 p.at_itag (λ t. option_map (λ k. busy_wire (p.order_state k)) (p.at_itag t))
    (λ t. seen_none (λ k. busy_wire (p.order_state k)) (p.at_itag t)))

sends_there : (first : ℕ) (p : Endpoint) → sends_invalidate (unit_wire first p) ≡ names.sends_invalidate p
sends_there first p = go (Labels.is_queue_empty p) refl
  where
    go :
        (b : Bool) → Labels.is_queue_empty p ≡ b
        → sends_invalidate (unit_wire first p) ≡ (not b && not (is_wait (p.order (Labels.head p))) && not (Labels.lowest_label 32 p.at_itag == 32))
    go true h = ap (λ q. is_invalidation q && prelude.is_some (lowest_label (unit_wire first p).busy)) (queue_none first p h)
    go false h =
        ap₂ (λ a b. a && b) (ap is_invalidation (queue_head first p h).1 ∙ head_kind first p (p.order (Labels.head p)) (queue_head first p h).0)
        (label_there first p)

-- is an ITag busy?
busy_there : (first m : ℕ) (p : Endpoint) → Bounds m p → labels.Labels p → is_some_busy (unit_wire first p) ≡ Labels.is_some_busy p
busy_there first m p bo la =
    any_table 32 (λ t. option_map (λ k. busy_wire (p.order_state k)) (p.at_itag t)) prelude.is_some
    ∙ any_same 32 (λ t. prelude.is_some (option_map (λ k. busy_wire (p.order_state k)) (p.at_itag t))) (λ t. is_some (p.at_itag t))
    (λ t l. seen_some (λ k. busy_wire (p.order_state k)) (p.at_itag t))
    ∙ both_ways (any_below 32 (λ t. is_some (p.at_itag t))) (Labels.is_some_busy p) forth back
  where
    made : (k : ℕ) → is_busy (p.order_state k) ≡ true → (p.orders ≤ k → p.order_state k ≡ Void) → k < p.orders
    made k h v = grind (arith)

    by_tag : (t : ℕ) (o : Option ℕ) → p.at_itag t ≡ o → is_some o ≡ true → Labels.is_some_busy p ≡ true
    by_tag t None e h = absurd (cc (h))
    by_tag t (Some k) e h =
        let b = (la.itag_bears t k e).1 in
        any_below-intro p.orders (λ x. is_busy (p.order_state x)) k (made k b (bo.order_state k)) b

    forth : any_below 32 (λ t. is_some (p.at_itag t)) ≡ true → Labels.is_some_busy p ≡ true
    forth h = let x = any_below-true 32 (λ t. is_some (p.at_itag t)) h in by_tag x.0 (p.at_itag x.0) refl x.2

    back : Labels.is_some_busy p ≡ true → any_below 32 (λ t. is_some (p.at_itag t)) ≡ true
    back h =
        let x = any_below-true p.orders (λ k. is_busy (p.order_state k)) h in
        let at = la.bears_itag x.0 x.2 in
        any_below-intro 32 (λ t. is_some (p.at_itag t)) (p.itag x.0) (la.itag_low (p.itag x.0) x.0 at) (ap is_some at)

pub page_queue_empty_there : (p : Endpoint) → (length (page_queue_wire p) == 0) ≡ Labels.is_page_queue_empty p
page_queue_empty_there p =
    ap (λ n. n == 0) (length_seen (λ k. page_request_wire p (p.arrival k)) p.arrivals (Labels.is_waiting p)) ∙ count_is_none p.arrivals (Labels.is_waiting p)

pass_there :
    (w : World) (e : ℕ) (drain : Bool) → Invariant w
    → may_pass (part_wire w.config.first w.mappings (w.part e)) drain ≡ outcomes.may_pass (w.part e) drain
pass_there w e drain i =
    ap₂ (λ a b. not a && (not drain || b)) (busy_there w.config.first w.bindings (w.part e) (i.parts e).bounds (i.parts e).labels)
    (page_queue_empty_there (w.part e))

send_same :
    (w : World) (e pasid : ℕ) (extent : Extent) (z : ℕ) (b t : Bool) → b ≡ not t
    → (w.part e).pasid (binding_of ((w.part e).order (Labels.head (w.part e)))) ≡ pasid
    → extent_of ((w.part e).order (Labels.head (w.part e))) ≡ extent
    → send_result e pasid extent (if_found b z) ≡ result_by w (send_outcome e (Labels.head (w.part e)) z (not t))
send_same w e pasid extent z true false h p x = ap₂ (λ a b. by_one (answer.Itag z) (Move.Send e z a b)) (sym p) (sym x)
send_same w e pasid extent z false true h p x = refl
send_same w e pasid extent z true true h p x = absurd (cc (h))
send_same w e pasid extent z false false h p x = absurd (cc (h))

low_or_end : (n : ℕ) (at : ℕ → Option ℕ) → nat_lt (Labels.lowest_label n at) n ≡ not (Labels.lowest_label n at == n)
low_or_end n at = go (Labels.lowest_label n at) (lowest_cases n (λ t. not (is_some (at t))))
  where
    by_number : (z : ℕ) → (z ≡ n) ⊎ (z < n) → nat_lt z n ≡ not (z == n)
    by_number z (inl e) = both_ways (nat_lt z n) (not (z == n)) (λ h. grind (arith, nat_tests)) (λ h. grind (arith, nat_tests))
    by_number z (inr l) = both_ways (nat_lt z n) (not (z == n)) (λ h. grind (arith, nat_tests)) (λ h. grind (arith, nat_tests))

    go :
        (z : ℕ)
        → ((Labels.lowest_label n at ≡ n) × ((j : ℕ) → j < n → not (is_some (at j)) ≡ false)) ⊎ ((Labels.lowest_label n at < n)
        × (not (is_some (at (Labels.lowest_label n at))) ≡ true) × ((j : ℕ) → j < Labels.lowest_label n at → not (is_some (at j)) ≡ false))
        → nat_lt (Labels.lowest_label n at) n ≡ not (Labels.lowest_label n at == n)
    go z (inl x) = by_number (Labels.lowest_label n at) (inl x.0)
    go z (inr x) = by_number (Labels.lowest_label n at) (inr x.0)

sent_by :
    (w : World) (e pasid : ℕ) (extent : Extent) → (w.part e).pasid (binding_of ((w.part e).order (Labels.head (w.part e)))) ≡ pasid
    → extent_of ((w.part e).order (Labels.head (w.part e))) ≡ extent
    → send_result e pasid extent (lowest_label (unit_wire w.config.first (w.part e)).busy)
    ≡ result_by w (send_outcome e (Labels.head (w.part e)) (Labels.lowest_label 32 (w.part e).at_itag)
    (not (Labels.lowest_label 32 (w.part e).at_itag == 32)))
sent_by w e pasid extent p x =
    ap (send_result e pasid extent)
    (label_seen 32 (w.part e).at_itag (λ t. option_map (λ k. busy_wire ((w.part e).order_state k)) ((w.part e).at_itag t))
    (λ t. seen_none (λ k. busy_wire ((w.part e).order_state k)) ((w.part e).at_itag t)))
    ∙ send_same w e pasid extent (Labels.lowest_label 32 (w.part e).at_itag) (nat_lt (Labels.lowest_label 32 (w.part e).at_itag) 32)
    (Labels.lowest_label 32 (w.part e).at_itag == 32) (low_or_end 32 (w.part e).at_itag) p x

passed_by :
    (w : World) (e c : ℕ) (drain : Bool) → (w.part e).order (Labels.head (w.part e)) ≡ Wait c drain → (b : Bool)
    → wait_result e (number w.config.first c) b ≡ result_by w (outcomes.wait_outcome e (Labels.head (w.part e)) b)
passed_by w e c drain h true = ap (λ o. by_one answer.WaitDone (Move.Pass e (cookie_number w.config.first o))) (sym h)
passed_by w e c drain h false = refl

head_by :
    (w : World) (e : ℕ) → Invariant w → (o : Order) → (w.part e).order (Labels.head (w.part e)) ≡ o → (rest : List Descriptor)
    → pump_result (part_wire w.config.first w.mappings (w.part e)) e (descriptor w.config.first (w.part e) o ∷ rest)
    ≡ result_by w (head_outcome (w.part e) e (Labels.head (w.part e)) o)
head_by w e i (RangeOf b r) h rest = sent_by w e ((w.part e).pasid b) (Pages r) (ap (λ o. (w.part e).pasid (binding_of o)) h) (ap extent_of h)
head_by w e i (PasidOf b) h rest = sent_by w e ((w.part e).pasid b) AllPages (ap (λ o. (w.part e).pasid (binding_of o)) h) (ap extent_of h)
head_by w e i (Wait c drain) h rest =
    ap (wait_result e (number w.config.first c)) (pass_there w e drain i) ∙ passed_by w e c drain h (outcomes.may_pass (w.part e) drain)

pumped_by :
    (w : World) (e : ℕ) → Invariant w → (b : Bool) → Labels.is_queue_empty (w.part e) ≡ b
    → pump_result (part_wire w.config.first w.mappings (w.part e)) e (unit_wire w.config.first (w.part e)).queue ≡ result_by w (pump_outcome (w.part e) e b)
pumped_by w e i true h = ap (pump_result (part_wire w.config.first w.mappings (w.part e)) e) (queue_none w.config.first (w.part e) h)
pumped_by w e i false h =
    let q = queue_head w.config.first (w.part e) h in
    ap (pump_result (part_wire w.config.first w.mappings (w.part e)) e) q.1 ∙ head_by w e i ((w.part e).order (Labels.head (w.part e))) refl q.0

pub pump_says : (w : World) (e : ℕ) → Invariant w → SaysAlike w (step.Pump e)
pump_says w e i =
    record {
      alike =
          at_endpoint w e (resetting (wire w) e ∷ (sends_invalidate (unit_of (wire w) e) && lacks (wire w).next_message 1, refusal.NumbersSpent) ∷ [])
          (names.resetting w e ∷ (names.sends_invalidate (w.part e) && Labels.lacks w w.messages 1, refusal.NumbersSpent) ∷ [])
          (λ l. alike_same
          (resetting (wire w) e ∷ (sends_invalidate (unit_of (wire w) e) && lacks (wire w).next_message 1, refusal.NumbersSpent) ∷ [])
          (names.resetting w e ∷ (names.sends_invalidate (w.part e) && Labels.lacks w w.messages 1, refusal.NumbersSpent) ∷ [])
          (λ k. reset_cause w e l k ∷ (
            ((ap sends_invalidate (unit_seen w e l))
                ∙ sends_there w.config.first (w.part e)) k && Labels.lacks w w.messages 1,
            refusal.NumbersSpent,
          ) ∷ []));
      result = λ k.
          let l = is_less e w.config.endpoints k.0 in
          ap₂ (λ p q. pump_result p e q) (part_seen w e l) (ap (λ u. u.queue) (unit_seen w e l)) ∙ pumped_by w e i (Labels.is_queue_empty (w.part e)) refl;
    }
