-- What the endpoint's steps have tested.
use Rattle.std.proofs.Common.{◌≡◌, ◌≢◌, ◌⊎◌, inl, inr, refl, ap, sym, ◌∙◌, ℕ, ◌<◌, ◌≤◌, Bool, true, false, arith}
use Rattle.std.specs.Prelude.{Option, Some, None, ◌&&◌, ◌||◌, not, ◌==◌, nat_le, nat_lt}
use Rattle.std.proofs.lemmas.Bool.Decides.{nat_tests}
use Rattle.std.proofs.lemmas.Bool.{and_from, not-false}
use Rattle.sva_step.specs.declared.steps.Step.TheVariants as step
use Rattle.sva_model.specs.Words.{any_below, is_some, holds_of, the}
use Rattle.sva_model.specs.State.{Endpoint, World, PasidState, GroupState}
use Rattle.sva_model.specs.State.PasidState.{On, Ending}
use Rattle.sva_model.specs.State.UseState.{Running}
use Rattle.sva_model.specs.State.GroupState.{Collecting}
use Rattle.sva_model.specs.States.{is_on, is_ending, is_off, is_out, is_running, is_collecting, is_outstanding, is_taken, uses_noted, covers}
use Rattle.sva_model.specs.Refusals.{refusals, fault_refusals}
use Rattle.sva_model.specs.Outcomes.{outcome, fault_outcome}
use Rattle.sva_model.specs.Labels
use Rattle.sva_laws.specs.LabelLaws.{IsVectorOf}
use Rattle.sva_labels.proofs.Words.{lowest_cases, lowest_below, some_the, any_below-false, any_below-true}
use Rattle.sva_labels.proofs.Counting.{pigeons}
use Rattle.sva_laws.proofs.Bounds.{Bounds}
use Rattle.sva_laws.proofs.Groups.{Groups}
use Rattle.sva_laws.proofs.Invariant.{Invariant}
use Rattle.sva_laws.proofs.Passed.{Passed, LegalAll, label_low, label_free, bearer_of}
use Rattle.sva_labels.proofs.Tests.{first_fails, first_holds, is_less, one_holds, second_fails, second_holds, second_holds_too}

on_is : (s : PasidState) → is_on s ≡ true → s ≡ On
on_is s h = grind arith

ending_is : (s : PasidState) → is_ending s ≡ true → s ≡ Ending
ending_is s h = grind arith

started_on : (p : Endpoint) (t : ℕ) → Labels.is_started p t ≡ true → p.pasid_state (Labels.bearer p t) ≡ On
started_on p t h = on_is (p.pasid_state (Labels.bearer p t)) (bearer_of p t (λ b. is_on (p.pasid_state b)) h).1

pub ask : (w : World) (e t q : ℕ) → Invariant w → Passed (refusals w (step.Ask e t q)) → LegalAll w (outcome w (step.Ask e t q)).acts
ask w e t q i h =
    let p = w.part e in (
      (
        is_less e w.config.endpoints h.0,
        ((started_on p t (not-false (Labels.is_started p t) h.1.1.0), label_free 32 p.at_tag h.1.1.1.0, label_low 32 p.at_tag h.1.1.1.0), tt),
        tt,
      ),
      tt,
    )

-- what is cached for a PASID and page
pub record Cached (p : Endpoint) (t q : ℕ) : Type 0 where
  pub held : p.held (Labels.cached p (Labels.bearer p t) q) ≡ Some (the (p.held (Labels.cached p (Labels.bearer p t) q)))
  pub binding : p.request_binding (Labels.cached p (Labels.bearer p t) q) ≡ Labels.bearer p t
  pub page : p.request_page (Labels.cached p (Labels.bearer p t) q) ≡ q

pub cached_is : (p : Endpoint) (t q : ℕ) → Labels.is_cached p t q ≡ true → Cached p t q
cached_is p t q h =
    let b = Labels.bearer p t in
    let some = any_below-true p.requests (Labels.is_held_at p b q) (bearer_of p t (λ d. any_below p.requests (Labels.is_held_at p d q)) h).1 in
    let low = lowest_below p.requests (Labels.is_held_at p b q) some.0 some.1 some.2 in
    let r = Labels.cached p b q in
    record {
      held = some_the (p.held r) (first (is_some (p.held r)) (p.request_binding r == b) (p.request_page r == q) low.1);
      binding = second (is_some (p.held r)) (p.request_binding r) b (p.request_page r == q) low.1;
      page = third (is_some (p.held r)) (p.request_binding r == b) (p.request_page r) q low.1;
    }
  where
    first : (x y z : Bool) → (x && y && z) ≡ true → x ≡ true
    first x y z h = grind arith

    second : (x : Bool) (a b : ℕ) (z : Bool) → (x && a == b && z) ≡ true → a ≡ b
    second x a b z h = grind (arith, nat_tests)

    third : (x y : Bool) (a b : ℕ) → (x && y && a == b) ≡ true → a ≡ b
    third x y a b h = grind (arith, nat_tests)

pub begin : (w : World) (e t q : ℕ) (x : Bool) → Invariant w → Passed (refusals w (step.BeginUse e t q x))
    → LegalAll w (outcome w (step.BeginUse e t q x)).acts
begin w e t q x i h =
    let p = w.part e in
    let c = cached_is p t q (not-false (Labels.is_cached p t q) h.1.1.1.0) in (
      (
        is_less e w.config.endpoints h.0,
        (
          (
            ap p.pasid_state c.binding ∙ started_on p t (not-false (Labels.is_started p t) h.1.1.0),
            c.held,
            label_free 16 p.at_slot h.1.1.1.1.1.0,
            label_low 16 p.at_slot h.1.1.1.1.1.0,
          ),
          tt,
        ),
        tt,
      ),
      tt,
    )

pub end : (w : World) (e u : ℕ) → Invariant w → Passed (refusals w (step.EndUse e u)) → LegalAll w (outcome w (step.EndUse e u)).acts
end w e u i h =
    let p = w.part e in
    let there = some_the (p.at_slot u) (second_holds (nat_lt u 16) (is_some (p.at_slot u)) (not-false (nat_lt u 16 && is_some (p.at_slot u)) h.1.0)) in
    ((is_less e w.config.endpoints h.0, (ap p.at_slot ((i.parts e).labels.slot_bears u (the (p.at_slot u)) there).0 ∙ there, tt), tt), tt)

pub evict : (w : World) (e t q : ℕ) → Invariant w → Passed (refusals w (step.Evict e t q)) → LegalAll w (outcome w (step.Evict e t q)).acts
evict w e t q i h =
    let p = w.part e in
    let c = cached_is p t q (not-false (Labels.is_cached p t q) h.1.1.0) in
    ((is_less e w.config.endpoints h.0, ((the (p.held (Labels.cached p (Labels.bearer p t) q)), c.held), tt), tt), tt)

-- where fewer than 32 page requests are outstanding, a group index is free: each group has a page request of its own
pub index_free : (g : ℕ) (p : Endpoint) → Groups p → Bounds g p → nat_le 32 (Labels.outstanding p) ≡ false → (Labels.lowest_label 32 p.at_index == 32) ≡ false
index_free g p gr bo h = go (lowest_cases 32 (λ t. not (is_some (p.at_index t))))
  where
    full : ((j : ℕ) → j < 32 → not (is_some (p.at_index j)) ≡ false) → 32 ≤ Labels.outstanding p
    full all =
        pigeons 32 p.page_requests (λ r. is_outstanding (p.group (p.group_of r))) (λ j. p.first_request (the (p.at_index j)))
        (λ j l. (gr.first (the (p.at_index j)) (made j l all)).0)
        (λ j l. ap (λ z. is_outstanding (p.group z)) (gr.first (the (p.at_index j)) (made j l all)).1
        ∙ (gr.index_bears j (the (p.at_index j)) (there j l all)).1)
        (λ j k l m e. sym (gr.index_bears j (the (p.at_index j)) (there j l all)).0
        ∙ ap p.index (sym (gr.first (the (p.at_index j)) (made j l all)).1 ∙ ap p.group_of e ∙ (gr.first (the (p.at_index k)) (made k m all)).1)
        ∙ (gr.index_bears k (the (p.at_index k)) (there k m all)).0)
      where
        there : (j : ℕ) → j < 32 → ((j : ℕ) → j < 32 → not (is_some (p.at_index j)) ≡ false) → p.at_index j ≡ Some (the (p.at_index j))
        there j l all = some_the (p.at_index j) (not-false (is_some (p.at_index j)) (all j l))

        made : (j : ℕ) → j < 32 → ((j : ℕ) → j < 32 → not (is_some (p.at_index j)) ≡ false) → the (p.at_index j) < p.groups
        made j l all = outstanding_made (the (p.at_index j)) (gr.index_bears j (the (p.at_index j)) (there j l all)).1
          where
            outstanding_made : (x : ℕ) → is_outstanding (p.group x) ≡ true → x < p.groups
            outstanding_made x k = grind (arith, bo.group x)

    less : 32 ≤ Labels.outstanding p → nat_le 32 (Labels.outstanding p) ≢ false
    less k f = grind (arith, nat_tests)

    below : (k : ℕ) → k < 32 → (k == 32) ≡ false
    below k l = grind (arith, nat_tests)

    go : ((Labels.lowest_label 32 p.at_index ≡ 32) × ((j : ℕ) → j < 32 → not (is_some (p.at_index j)) ≡ false))
        ⊎ ((Labels.lowest_label 32 p.at_index < 32) × (not (is_some (p.at_index (Labels.lowest_label 32 p.at_index))) ≡ true)
        × ((j : ℕ) → j < Labels.lowest_label 32 p.at_index → not (is_some (p.at_index j)) ≡ false)) → (Labels.lowest_label 32 p.at_index == 32) ≡ false
    go (inl x) = absurd (less (full x.1) h)
    go (inr x) = below (Labels.lowest_label 32 p.at_index) x.0

credit : (p : Endpoint) → nat_le 32 (Labels.outstanding p) ≡ false → Labels.outstanding p < 32
credit p h = grind (arith, nat_tests)

pub unfinished_is : (s : GroupState) → is_collecting s ≡ true → s ≡ Collecting
unfinished_is s h = grind arith

fault_at : (w : World) (e t q : ℕ) (r x l : Bool) (o : Option ℕ) → Invariant w → e < w.config.endpoints → Passed (fault_refusals w (w.part e) t o)
    → LegalAll w (fault_outcome (w.part e) e t q r x l o).acts
fault_at w e t q r x l None i b h =
    let p = w.part e in
    let some = index_free w.bindings p (i.parts e).groups (i.parts e).bounds h.1.0 in
    ((b, ((started_on p t (not-false (Labels.is_started p t) h.0), label_free 32 p.at_index some, label_low 32 p.at_index some, credit p h.1.0), tt), tt), tt)
fault_at w e t q r x l (Some k) i b h =
    let p = w.part e in
    let g = group_is (p.at_index k) (not-false (Labels.is_group_of p t k) h.1.1.0) in (
      (
        b,
        (
          (
            unfinished_is (p.group (the (p.at_index k))) g.0,
            alive g.1 (not-false (Labels.is_started p t || Labels.is_told_to_stop p t) h.0),
            credit p h.1.0,
          ),
          tt,
        ),
        tt,
      ),
      tt,
    )
  where
    parts_of : (a c : Bool) (x y : ℕ) → (a && c && x == y) ≡ true → (a ≡ true) × (x ≡ y)
    parts_of a c x y h = grind (arith, nat_tests)

    group_is : (o : Option ℕ)
        → holds_of (λ g. is_collecting ((w.part e).group g) && is_some ((w.part e).at_pasid t) && (w.part e).asker g == Labels.bearer (w.part e) t) o
        ≡ true → (is_collecting ((w.part e).group (the o)) ≡ true) × ((w.part e).asker (the o) ≡ Labels.bearer (w.part e) t)
    group_is None h = absurd (cc)
    group_is (Some g) h = parts_of (is_collecting ((w.part e).group g)) (is_some ((w.part e).at_pasid t)) ((w.part e).asker g) (Labels.bearer (w.part e) t) h

    not_off : (s : PasidState) → (s ≡ On) ⊎ (s ≡ Ending) → is_off s ≡ false
    not_off s (inl h) = ap is_off h
    not_off s (inr h) = ap is_off h

    alive : (w.part e).asker (the ((w.part e).at_index k)) ≡ Labels.bearer (w.part e) t
        → (Labels.is_started (w.part e) t || Labels.is_told_to_stop (w.part e) t) ≡ true
        → is_off ((w.part e).pasid_state ((w.part e).asker (the ((w.part e).at_index k)))) ≡ false
    alive same h = ap (λ b. is_off ((w.part e).pasid_state b)) same ∙ go (one_holds (Labels.is_started (w.part e) t) (Labels.is_told_to_stop (w.part e) t) h)
      where
        go : (Labels.is_started (w.part e) t ≡ true) ⊎ (Labels.is_told_to_stop (w.part e) t ≡ true)
            → is_off ((w.part e).pasid_state (Labels.bearer (w.part e) t)) ≡ false
        go (inl k) = not_off ((w.part e).pasid_state (Labels.bearer (w.part e) t)) (inl (started_on (w.part e) t k))
        go (inr k) = not_off ((w.part e).pasid_state (Labels.bearer (w.part e) t))
            (inr (ending_is ((w.part e).pasid_state (Labels.bearer (w.part e) t)) (bearer_of (w.part e) t (λ b. is_ending ((w.part e).pasid_state b)) k).1))

pub fault : (w : World) (e t q : ℕ) (r x : Bool) (o : Option ℕ) (l : Bool) → Invariant w → Passed (refusals w (step.Fault e t q r x o l))
    → LegalAll w (outcome w (step.Fault e t q r x o l)).acts
fault w e t q r x o l i h = fault_at w e t q r x l o i (is_less e w.config.endpoints h.0) h.1.1

-- Finish: each named invalidation is taken, at least one is named, and no use that one noted runs on.
finish_set : (w : World) (e vector t : ℕ) → Invariant w → any_below 32 (λ t. Labels.is_set vector t && not (Labels.is_pending (w.part e) t)) ≡ false
    → t < 32 → Labels.is_set vector t ≡ true → (k : ℕ) × (Labels.is_named (w.part e) vector k ≡ true) × ((w.part e).itag k ≡ t)
finish_set w e vector t i pending l s =
    let p = w.part e in
    let there = pending_at p is_pending in
    let k = the (p.at_itag t) in
    let bears : p.itag k ≡ t = ((i.parts e).labels.itag_bears t k there.0).0 in
    (k, and_from (is_taken (p.order_state k)) (Labels.is_set vector (p.itag k)) there.1 (ap (Labels.is_set vector) bears ∙ s), bears)
  where
    is_pending : Labels.is_pending (w.part e) t ≡ true
    is_pending = second_holds_too (Labels.is_set vector t) (Labels.is_pending (w.part e) t) s
        (any_below-false 32 (λ t. Labels.is_set vector t && not (Labels.is_pending (w.part e) t)) pending t l)

    pending_at : (p : Endpoint) → Labels.is_pending p t ≡ true → (p.at_itag t ≡ Some (the (p.at_itag t)))
        × (is_taken (p.order_state (the (p.at_itag t))) ≡ true)
    pending_at p h = go (p.at_itag t) h
      where
        go : (o : Option ℕ) → holds_of (λ k. is_taken (p.order_state k)) o ≡ true → (o ≡ Some (the o)) × (is_taken (p.order_state (the o)) ≡ true)
        go None h = absurd (cc)
        go (Some k) h = (refl, h)

finish_named : (w : World) (e vector : ℕ) → Invariant w → Labels.names_none vector ≡ false
    → any_below 32 (λ t. Labels.is_set vector t && not (Labels.is_pending (w.part e) t)) ≡ false → (k : ℕ) × (Labels.is_named (w.part e) vector k ≡ true)
finish_named w e vector i some pending =
    let set = any_below-true 32 (Labels.is_set vector) (not-false (any_below 32 (Labels.is_set vector)) some) in
    let found = finish_set w e vector set.0 i pending set.1 set.2 in
    (found.0, found.1)

finish_vector : (w : World) (e vector : ℕ) → Invariant w → any_below 32 (λ t. Labels.is_set vector t && not (Labels.is_pending (w.part e) t)) ≡ false
    → IsVectorOf (w.part e) (Labels.is_named (w.part e) vector) vector
finish_vector w e vector i pending =
    record {
      named = λ k nm. second_holds (is_taken ((w.part e).order_state k)) (Labels.is_set vector ((w.part e).itag k)) nm;
      set = λ t l s. finish_set w e vector t i pending l s;
    }

finish_unused : (w : World) (e vector : ℕ) → Invariant w
    → any_below (w.part e).orders (λ k. Labels.is_named (w.part e) vector k && Labels.is_in_use w (w.part e) k) ≡ false → (k u : ℕ)
    → Labels.is_named (w.part e) vector k ≡ true → u < uses_noted ((w.part e).order_state k) → (w.part e).use_state u ≡ Running
    → covers ((w.part e).order k) ((w.part e).use_binding u) (w.mappings.page ((w.part e).use_mapping u)) ≡ false
finish_unused w e vector i h k u nm l r =
    let p = w.part e in
    let made : k < p.orders = taken_made k (first_holds (is_taken (p.order_state k)) (Labels.is_set vector (p.itag k)) nm) in
    let unused : Labels.is_in_use w p k ≡ false =
    second (Labels.is_named p vector k) (Labels.is_in_use w p k) nm
    (any_below-false p.orders (λ j. Labels.is_named p vector j && Labels.is_in_use w p j) h k made) in
    second (is_running (p.use_state u)) (covers (p.order k) (p.use_binding u) (w.mappings.page (p.use_mapping u))) (ap is_running r)
    (any_below-false (uses_noted (p.order_state k)) (Labels.is_noted_running w.mappings p k) unused u l)
  where
    taken_made : (k : ℕ) → is_taken ((w.part e).order_state k) ≡ true → k < (w.part e).orders
    taken_made k t = grind (arith, (i.parts e).bounds.order_state k)

    second : (a b : Bool) → a ≡ true → (a && b) ≡ false → b ≡ false
    second a b x y = grind arith

pub finish : (w : World) (e vector count : ℕ) → Invariant w → Passed (refusals w (step.Finish e vector count))
    → LegalAll w (outcome w (step.Finish e vector count)).acts
finish w e vector count i h =
    let p = w.part e in
    let some = first_fails (Labels.names_none vector) (any_below 32 (λ t. Labels.is_set vector t && not (Labels.is_pending p t))) h.1.0 in
    let pending = second_fails (Labels.names_none vector) (any_below 32 (λ t. Labels.is_set vector t && not (Labels.is_pending p t))) h.1.0 in (
      (
        is_less e w.config.endpoints h.0,
        (
          (
            finish_named w e vector i some pending,
            λ k nm. first_holds (is_taken (p.order_state k)) (Labels.is_set vector (p.itag k)) nm,
            finish_unused w e vector i h.1.1.0,
            low count h.1.1.1.0,
            high count h.1.1.1.0,
            finish_vector w e vector i pending,
          ),
          tt,
        ),
        tt,
      ),
      tt,
    )
  where
    low : (c : ℕ) → not (nat_le 1 c && nat_le c 8) ≡ false → 0 < c
    low c h = grind (arith, nat_tests)

    high : (c : ℕ) → not (nat_le 1 c && nat_le c 8) ≡ false → c ≤ 8
    high c h = grind (arith, nat_tests)

-- Quit: nothing of the PASID is unfinished, out or running.
pub quit : (w : World) (e t : ℕ) → Invariant w → Passed (refusals w (step.Quit e t)) → LegalAll w (outcome w (step.Quit e t)).acts
quit w e t i h =
    let p = w.part e in
    let b = Labels.bearer p t in
    let ending = bearer_of p t (λ d. is_ending (p.pasid_state d)) (not-false (Labels.is_told_to_stop p t) h.1.0) in
    let busy = h.1.1.0 in
    let groups = first_fails (Labels.has_unfinished_group p b) (Labels.is_request_out_of p b)
    (first_fails (Labels.has_unfinished_group p b || Labels.is_request_out_of p b) (Labels.is_use_of p b) busy) in
    let requests = second_fails (Labels.has_unfinished_group p b) (Labels.is_request_out_of p b)
    (first_fails (Labels.has_unfinished_group p b || Labels.is_request_out_of p b) (Labels.is_use_of p b) busy) in
    let uses = second_fails (Labels.has_unfinished_group p b || Labels.is_request_out_of p b) (Labels.is_use_of p b) busy in (
      (
        is_less e w.config.endpoints h.0,
        (
          (
            ending_is (p.pasid_state b) ending.1,
            λ x u same. none (is_collecting (p.group x)) (p.asker x) b (ap is_collecting u) same
                (any_below-false p.groups (λ g. is_collecting (p.group g) && p.asker g == b) groups x (group_made x u)),
            λ r o same. none (is_out (p.request r)) (p.request_binding r) b o same
                (any_below-false p.requests (λ x. is_out (p.request x) && p.request_binding x == b) requests r (request_made r o)),
            λ u r same. none (is_running (p.use_state u)) (p.use_binding u) b (ap is_running r) same
                (any_below-false p.uses (λ x. is_running (p.use_state x) && p.use_binding x == b) uses u (use_made u r)),
          ),
          tt,
        ),
        tt,
      ),
      tt,
    )
  where
    none : (x : Bool) (a b : ℕ) → x ≡ true → a ≡ b → (x && a == b) ≡ false → ⊥
    none x a b h e f = grind (arith, nat_tests)

    group_made : (x : ℕ) → (w.part e).group x ≡ Collecting → x < (w.part e).groups
    group_made x u = grind (arith, (i.parts e).bounds.group x)

    request_made : (r : ℕ) → is_out ((w.part e).request r) ≡ true → r < (w.part e).requests
    request_made r o = grind (arith, (i.parts e).bounds.request r)

    use_made : (u : ℕ) → (w.part e).use_state u ≡ Running → u < (w.part e).uses
    use_made u r = grind (arith, (i.parts e).bounds.use_state u)
