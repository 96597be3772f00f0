-- A refused step has its refusal's cause: the steps of endpoints and of the link.
use Rattle.std.proofs.Common.{◌≡◌, ◌≢◌, ◌⊎◌, inl, inr, refl, ap, sym, ◌∙◌, ℕ, ◌+◌, ◌<◌, Bool, true, false, arith}
use Rattle.std.specs.Prelude.{Option, Some, None, ◌&&◌, ◌||◌, not, ◌==◌, nat_lt}
use Rattle.std.proofs.lemmas.Bool.Decides.{nat_tests}
use Rattle.std.proofs.lemmas.Bool.{and_from, or_parts, not-true, not-false, eqb-true}
use Rattle.sva_step.specs.declared.steps.Step.TheVariants as step
use Rattle.sva_step.specs.Limits
use Rattle.sva_model.specs.Words.{any_below, is_some, the}
use Rattle.sva_model.specs.State.{PasidState, UseState, GroupState, Subject, Endpoint, World}
use Rattle.sva_model.specs.State.PasidState.{On, Ending}
use Rattle.sva_model.specs.State.UseState.{Running}
use Rattle.sva_model.specs.State.GroupState.{Collecting}
use Rattle.sva_model.specs.State.Phase.{Open}
use Rattle.sva_model.specs.State.Subject.{StartOf, StopOf, FunctionReset, CompletionOf, InvalidateOf, ResponseOf, RequestOf, InvalidatedOf, PageRequestOf}
use Rattle.sva_model.specs.State.Subject.{MarkerOf, ResetDone}
use Rattle.sva_model.specs.States.{is_on, is_ending, is_out, is_running, is_collecting, is_taken, uses_noted, covers}
use Rattle.sva_model.specs.LinkOrder.{MessageKind, stays_behind}
use Rattle.sva_model.specs.Labels
use Rattle.sva_model.specs.Refusals.{refusals, fault_refusals, delivery_sends, is_read_only}
use Rattle.sva_laws.specs.EndpointCauses.{HasCause, IsNowhere, IsUncached, IsNotPending, IsInUse, IsBusy, IsOvertaking}
use Rattle.sva_labels.proofs.Words.{any_below-false, any_below-true}
use Rattle.sva_labels.proofs.Tests.{first_holds, second_holds, one_holds}
use Rattle.sva_laws.proofs.Resets.{open_is}
use Rattle.sva_laws.proofs.Bounds.{Bounds}
use Rattle.sva_laws.proofs.Invariant.{Invariant}
use Rattle.sva_laws.proofs.Passed.{bearer_of}
use Rattle.sva_laws.proofs.LegalEndpoint.{cached_is, unfinished_is}
use Rattle.sva_laws.proofs.Refused.{spent, EachHas, not_lower, is_lower, is_at_most, out_of, not_holding, all_taken, is_numbered}

-- PASIDs and translations.

not_on : (x : PasidState) → is_on x ≡ false → x ≢ On
not_on x h e = absurd (cc (sym (ap is_on e) ∙ h))

not_ending : (x : PasidState) → is_ending x ≡ false → x ≢ Ending
not_ending x h e = absurd (cc (sym (ap is_ending e) ∙ h))

nowhere_on : (p : Endpoint) (t : ℕ) → Labels.is_started p t ≡ false → IsNowhere p t On
nowhere_on p t h = λ b at. not_on (p.pasid_state b) (not_holding (λ d. is_on (p.pasid_state d)) (p.at_pasid t) b h at)

nowhere_ending : (p : Endpoint) (t : ℕ) → Labels.is_told_to_stop p t ≡ false → IsNowhere p t Ending
nowhere_ending p t h = λ b at. not_ending (p.pasid_state b) (not_holding (λ d. is_ending (p.pasid_state d)) (p.at_pasid t) b h at)

uncached : (g : ℕ) (p : Endpoint) (t q : ℕ) → Bounds g p → not (Labels.is_cached p t q) ≡ true → IsUncached p t q
uncached g p t q bo h b r m at held of_b of_q =
    let none =
    not_holding (λ d. any_below p.requests (Labels.is_held_at p d q)) (p.at_pasid t) b (not-true (Labels.is_cached p t q) h) at
    in
    absurd (here held of_b of_q (any_below-false p.requests (Labels.is_held_at p b q) none r (made r m held)))
  where
    made : (r m : ℕ) → p.held r ≡ Some m → r < p.requests
    made r m k = grind (arith, nat_tests, bo.held r)

    here : p.held r ≡ Some m → p.request_binding r ≡ b → p.request_page r ≡ q → Labels.is_held_at p b q r ≢ false
    here x y z f = grind (arith, nat_tests)

pub ask_each : (w : World) (e t q : ℕ) → EachHas (HasCause w (step.Ask e t q)) (refusals w (step.Ask e t q))
ask_each w e t q = (
  (λ h. not_lower e w.config.endpoints h),
  λ f. (
    (λ h. is_lower Limits.page_numbers (q + 1) h),
    λ f. (
      (λ h. nowhere_on (w.part e) t (not-true (Labels.is_started (w.part e) t) h)),
      λ f. ((λ h. all_taken Limits.request_tags (w.part e).at_tag h), λ f. ((λ h. spent w w.messages 1 h), λ f. tt)),
    ),
  ),
)

pub begin_each : (w : World) (e t q : ℕ) (x : Bool) → Invariant w → EachHas (HasCause w (step.BeginUse e t q x)) (refusals w (step.BeginUse e t q x))
begin_each w e t q x i = (
  (λ h. not_lower e w.config.endpoints h),
  λ f. (
    (λ h. is_lower Limits.page_numbers (q + 1) h),
    λ f. (
      (λ h. nowhere_on (w.part e) t (not-true (Labels.is_started (w.part e) t) h)),
      λ on. (
        (λ h. uncached w.bindings (w.part e) t q (i.parts e).bounds h),
        λ there. (
          (λ h. read_only (not-false (Labels.is_started (w.part e) t) on) (not-false (Labels.is_cached (w.part e) t q) there) h),
          λ f. ((λ h. all_taken Limits.use_slots (w.part e).at_slot h), λ f. tt),
        ),
      ),
    ),
  ),
)
  where
    read_only : Labels.is_started (w.part e) t ≡ true → Labels.is_cached (w.part e) t q ≡ true → (x && is_read_only w (w.part e) t q) ≡ true
        → (x ≡ true)
        × ((b : ℕ) × (r : ℕ) × (m : ℕ) × ((w.part e).at_pasid t ≡ Some b) × ((w.part e).held r ≡ Some m) × ((w.part e).request_binding r ≡ b)
        × ((w.part e).request_page r ≡ q) × (w.mappings.write m ≡ false))
    read_only on there h =
        let c = cached_is (w.part e) t q there in
        let r = Labels.cached (w.part e) (Labels.bearer (w.part e) t) q in (
          first_holds x (is_read_only w (w.part e) t q) h,
          (
            Labels.bearer (w.part e) t,
            r,
            the ((w.part e).held r),
            (bearer_of (w.part e) t (λ b. is_on ((w.part e).pasid_state b)) on).0,
            c.held,
            c.binding,
            c.page,
            not-true (w.mappings.write (the ((w.part e).held r))) (second_holds x (is_read_only w (w.part e) t q) h),
          ),
        )

pub end_each : (w : World) (e t : ℕ) → Invariant w → EachHas (HasCause w (step.EndUse e t)) (refusals w (step.EndUse e t))
end_each w e t i = (
  (λ h. not_lower e w.config.endpoints h),
  λ f. ((λ h. go ((w.part e).at_slot t) refl (not-true (nat_lt t 16 && is_some ((w.part e).at_slot t)) h)), λ f. tt),
)
  where
    go : (o : Option ℕ) → (w.part e).at_slot t ≡ o → (nat_lt t 16 && is_some o) ≡ false → o ≡ None
    go None at h = refl
    go (Some u) at h = absurd (low ((i.parts e).labels.slot_low t u at) h)
      where
        low : t < 16 → (nat_lt t 16 && true) ≢ false
        low l f = grind (arith, nat_tests)

pub evict_each : (w : World) (e t q : ℕ) → Invariant w → EachHas (HasCause w (step.Evict e t q)) (refusals w (step.Evict e t q))
evict_each w e t q i = (
  (λ h. not_lower e w.config.endpoints h),
  λ f. (
    (λ h. is_lower Limits.page_numbers (q + 1) h),
    λ f. ((λ h. uncached w.bindings (w.part e) t q (i.parts e).bounds h), λ f. tt),
  ),
)

-- Page requests.

not_collecting : (x : GroupState) → is_collecting x ≡ false → x ≢ Collecting
not_collecting x h e = absurd (cc (sym (ap is_collecting e) ∙ h))

no_group : (p : Endpoint) (t k : ℕ) → not (Labels.is_group_of p t k) ≡ true → (b g : ℕ) → p.at_pasid t ≡ Some b → p.at_index k ≡ Some g → p.asker g ≡ b
    → p.group g ≢ Collecting
no_group p t k h b g at index asker same =
    absurd (both at asker same
    (not_holding (λ y. is_collecting (p.group y) && is_some (p.at_pasid t) && p.asker y == Labels.bearer p t) (p.at_index k) g
    (not-true (Labels.is_group_of p t k) h) index))
  where
    three : (x y : Bool) (c d : ℕ) → x ≡ true → y ≡ true → c ≡ d → (x && y && c == d) ≢ false
    three x y c d j l m f = grind (arith, nat_tests)

    both : p.at_pasid t ≡ Some b → p.asker g ≡ b → p.group g ≡ Collecting
        → (is_collecting (p.group g) && is_some (p.at_pasid t) && p.asker g == Labels.bearer p t) ≢ false
    both u v z =
        three (is_collecting (p.group g)) (is_some (p.at_pasid t)) (p.asker g) (Labels.bearer p t) (ap is_collecting z) (ap is_some u) (v ∙ sym (ap the u))

fault_each_at : (w : World) (e t q : ℕ) (r x l : Bool) (o : Option ℕ)
    → EachHas (HasCause w (step.Fault e t q r x o l)) (fault_refusals w (w.part e) t o)
fault_each_at w e t q r x l None = (
  (λ h. nowhere_on (w.part e) t (not-true (Labels.is_started (w.part e) t) h)),
  λ f. (
    (λ h. is_at_most Limits.page_requests (Labels.outstanding (w.part e)) h),
    λ f. ((λ h. absurd (cc)), λ f. ((λ h. h), λ f. ((λ h. spent w w.messages 1 h), λ f. tt))),
  ),
)
fault_each_at w e t q r x l (Some k) = (
  (λ h. neither (not-true (Labels.is_started (w.part e) t || Labels.is_told_to_stop (w.part e) t) h)),
  λ f. (
    (λ h. is_at_most Limits.page_requests (Labels.outstanding (w.part e)) h),
    λ f. (
      (λ h. no_group (w.part e) t k h),
      λ f. ((λ h. h), λ f. ((λ h. spent w w.messages 1 h), λ f. tt)),
    ),
  ),
)
  where
    neither : (Labels.is_started (w.part e) t || Labels.is_told_to_stop (w.part e) t) ≡ false → IsNowhere (w.part e) t On × IsNowhere (w.part e) t Ending
    neither h =
        let z = or_parts (Labels.is_started (w.part e) t) (Labels.is_told_to_stop (w.part e) t) h in
        (nowhere_on (w.part e) t z.0, nowhere_ending (w.part e) t z.1)

pub fault_each : (w : World) (e t q : ℕ) (r x l : Bool) (o : Option ℕ)
    → EachHas (HasCause w (step.Fault e t q r x o l)) (refusals w (step.Fault e t q r x o l))
fault_each w e t q r x l o = (
  (λ h. not_lower e w.config.endpoints h),
  λ f. ((λ h. is_lower Limits.page_numbers (q + 1) h), λ f. fault_each_at w e t q r x l o),
)

-- Invalidations.

not_pending : (w : World) (e vector count : ℕ)
    → (Labels.names_none vector || any_below 32 (λ t. Labels.is_set vector t && not (Labels.is_pending (w.part e) t))) ≡ true
    → IsNotPending w (step.Finish e vector count)
not_pending w e vector count h =
    elim (one_holds (Labels.names_none vector) (any_below 32 (λ t. Labels.is_set vector t && not (Labels.is_pending (w.part e) t))) h)
    [ inl k ↦ inl (λ t l. any_below-false 32 (Labels.is_set vector) (not-true (any_below 32 (Labels.is_set vector)) k) t l) | inr k ↦ inr (one k) ]
  where
    one : any_below 32 (λ t. Labels.is_set vector t && not (Labels.is_pending (w.part e) t)) ≡ true
        → (t : ℕ) × (t < 32) × (Labels.is_set vector t ≡ true)
        × ((k : ℕ) → (w.part e).at_itag t ≡ Some k → is_taken ((w.part e).order_state k) ≡ false)
    one k =
        let x = any_below-true 32 (λ t. Labels.is_set vector t && not (Labels.is_pending (w.part e) t)) k in (
          x.0,
          x.1,
          first_holds (Labels.is_set vector x.0) (not (Labels.is_pending (w.part e) x.0)) x.2,
          λ j at. not_holding (λ z. is_taken ((w.part e).order_state z)) ((w.part e).at_itag x.0) j
              (not-true (Labels.is_pending (w.part e) x.0) (second_holds (Labels.is_set vector x.0) (not (Labels.is_pending (w.part e) x.0)) x.2)) at,
        )

running_is : (x : UseState) → is_running x ≡ true → x ≡ Running
running_is x h = grind arith

in_use : (w : World) (e vector count : ℕ) → any_below (w.part e).orders (λ k. Labels.is_named (w.part e) vector k && Labels.is_in_use w (w.part e) k) ≡ true
    → IsInUse w (step.Finish e vector count)
in_use w e vector count h =
    let p = w.part e in
    let x = any_below-true p.orders (λ k. Labels.is_named p vector k && Labels.is_in_use w p k) h in
    let named = first_holds (Labels.is_named p vector x.0) (Labels.is_in_use w p x.0) x.2 in
    let y =
    any_below-true (uses_noted (p.order_state x.0)) (Labels.is_noted_running w.mappings p x.0)
    (second_holds (Labels.is_named p vector x.0) (Labels.is_in_use w p x.0) x.2)
    in
    let covered : Bool = covers (p.order x.0) (p.use_binding y.0) (w.mappings.page (p.use_mapping y.0)) in (
      x.0,
      y.0,
      first_holds (is_taken (p.order_state x.0)) (Labels.is_set vector (p.itag x.0)) named,
      second_holds (is_taken (p.order_state x.0)) (Labels.is_set vector (p.itag x.0)) named,
      y.1,
      running_is (p.use_state y.0) (first_holds (is_running (p.use_state y.0)) covered y.2),
      second_holds (is_running (p.use_state y.0)) covered y.2,
    )

pub finish_each : (w : World) (e vector count : ℕ)
    → EachHas (HasCause w (step.Finish e vector count)) (refusals w (step.Finish e vector count))
finish_each w e vector count = (
  (λ h. not_lower e w.config.endpoints h),
  λ f. (
    (λ h. not_pending w e vector count h),
    λ f. (
      (λ h. in_use w e vector count h),
      λ f. ((λ h. out_of count Limits.most_completions h), λ f. ((λ h. spent w w.messages count h), λ f. tt)),
    ),
  ),
)

-- A quit.

busy : (w : World) (e t : ℕ) → Labels.is_told_to_stop (w.part e) t ≡ true
    → (Labels.has_unfinished_group (w.part e) (Labels.bearer (w.part e) t)
    || Labels.is_request_out_of (w.part e) (Labels.bearer (w.part e) t)
    || Labels.is_use_of (w.part e) (Labels.bearer (w.part e) t)) ≡ true
    → IsBusy w (step.Quit e t)
busy w e t told h = (
  b,
  (bearer_of p t (λ d. is_ending (p.pasid_state d)) told).0,
  elim (one_of (Labels.has_unfinished_group p b) (Labels.is_request_out_of p b) (Labels.is_use_of p b) h)
      [ inl k ↦ inl (group k) | inr (inl k) ↦ inr (inl (request k)) | inr (inr k) ↦ inr (inr (use_of k)) ],
)
  where
    p : Endpoint
    p = w.part e

    b : ℕ
    b = Labels.bearer p t

    one_of : (x y z : Bool) → (x || y || z) ≡ true → (x ≡ true) ⊎ ((y ≡ true) ⊎ (z ≡ true))
    one_of x y z h = grind arith

    group : Labels.has_unfinished_group p b ≡ true → (g : ℕ) × (p.group g ≡ Collecting) × (p.asker g ≡ b)
    group k =
        let x = any_below-true p.groups (λ g. is_collecting (p.group g) && p.asker g == b) k in (
          x.0,
          unfinished_is (p.group x.0) (first_holds (is_collecting (p.group x.0)) (p.asker x.0 == b) x.2),
          eqb-true (p.asker x.0) b (second_holds (is_collecting (p.group x.0)) (p.asker x.0 == b) x.2),
        )

    request : Labels.is_request_out_of p b ≡ true → (r : ℕ) × (is_out (p.request r) ≡ true) × (p.request_binding r ≡ b)
    request k =
        let x = any_below-true p.requests (λ r. is_out (p.request r) && p.request_binding r == b) k in (
          x.0,
          first_holds (is_out (p.request x.0)) (p.request_binding x.0 == b) x.2,
          eqb-true (p.request_binding x.0) b (second_holds (is_out (p.request x.0)) (p.request_binding x.0 == b) x.2),
        )

    use_of : Labels.is_use_of p b ≡ true → (u : ℕ) × (p.use_state u ≡ Running) × (p.use_binding u ≡ b)
    use_of k =
        let x = any_below-true p.uses (λ u. is_running (p.use_state u) && p.use_binding u == b) k in (
          x.0,
          running_is (p.use_state x.0) (first_holds (is_running (p.use_state x.0)) (p.use_binding x.0 == b) x.2),
          eqb-true (p.use_binding x.0) b (second_holds (is_running (p.use_state x.0)) (p.use_binding x.0 == b) x.2),
        )

pub quit_each : (w : World) (e t : ℕ) → EachHas (HasCause w (step.Quit e t)) (refusals w (step.Quit e t))
quit_each w e t = (
  (λ h. not_lower e w.config.endpoints h),
  λ f. (
    (λ h. nowhere_ending (w.part e) t (not-true (Labels.is_told_to_stop (w.part e) t) h)),
    λ told. (
      (λ h. busy w e t (not-false (Labels.is_told_to_stop (w.part e) t) told) h),
      λ f. ((λ h. spent w w.messages 1 h), λ f. tt),
    ),
  ),
)

-- A delivery.

no_message : (w : World) (n : ℕ) → Invariant w → not (Labels.is_in_flight w n) ≡ true → (c : ℕ) → Labels.number w c ≡ n
    → (w.part (w.link_of c)).message c ≡ None
no_message w n i h c e = go ((w.part (w.link_of c)).message c) refl
  where
    go : (o : Option Subject) → (w.part (w.link_of c)).message c ≡ o → o ≡ None
    go None m = refl
    go (Some a) m =
        let x = is_numbered w w.messages c n e (sent m) in
        let yes =
        and_from (Labels.is_number w w.messages n) (is_some ((w.part (w.link_of (Labels.name w n))).message (Labels.name w n))) x.0
        (ap (λ z. is_some ((w.part (w.link_of z)).message z)) x.1 ∙ ap is_some m)
        in
        absurd (cc (sym (not-true (Labels.is_in_flight w n) h) ∙ yes))
      where
        sent : (w.part (w.link_of c)).message c ≡ Some a → c < w.messages
        sent k = let u = (i.parts (w.link_of c)).resets.unsent c in grind (arith, u)

overtaking : (w : World) (n : ℕ) → (o : Option Subject)
    → (w.part (w.link_of (Labels.name w n))).message (Labels.name w n) ≡ o → is_some o ≡ true
    → not (Labels.is_permitted_now (w.part (w.link_of (Labels.name w n))) (Labels.name w n) o) ≡ true → IsOvertaking w (step.Deliver n)
overtaking w n None m there h = absurd (cc)
overtaking w n (Some a) m there h =
    let c = Labels.name w n in
    let p = w.part (w.link_of c) in
    let x = any_below-true c (λ d. Labels.holds_back p (Labels.kind_of p a) (p.message d))
    (twice (any_below c (λ d. Labels.holds_back p (Labels.kind_of p a) (p.message d))) h) in
    let y = back p (Labels.kind_of p a) (p.message x.0) (p.message x.0) refl x.2 in
    (x.0, a, y.0, x.1, m, y.1, y.2)
  where
    twice : (b : Bool) → not (not b) ≡ true → b ≡ true
    twice true h = refl
    twice false h = absurd (cc)

    back : (p : Endpoint) (kind : MessageKind) (d o : Option Subject) → d ≡ o → Labels.holds_back p kind o ≡ true
        → (older : Subject) × (d ≡ Some older) × (stays_behind kind (Labels.kind_of p older) ≡ true)
    back p kind d None e k = absurd (cc)
    back p kind d (Some older) e k = (older, e, k)

sends_then : (p : Endpoint) (o : Option Subject) → delivery_sends p o ≡ true
    → (o ≡ Some FunctionReset) ⊎ ((r : ℕ) × (o ≡ Some (RequestOf r)) × (p.phase ≡ Open))
sends_then p (Some FunctionReset) h = inl refl
sends_then p (Some (RequestOf r)) h = inr (r, refl, open_is p h)
sends_then p None h = absurd (cc)
sends_then p (Some (StartOf b)) h = absurd (cc)
sends_then p (Some (StopOf b)) h = absurd (cc)
sends_then p (Some (CompletionOf r found)) h = absurd (cc)
sends_then p (Some (InvalidateOf k)) h = absurd (cc)
sends_then p (Some (ResponseOf g code)) h = absurd (cc)
sends_then p (Some (InvalidatedOf names)) h = absurd (cc)
sends_then p (Some (PageRequestOf r)) h = absurd (cc)
sends_then p (Some (MarkerOf b)) h = absurd (cc)
sends_then p (Some ResetDone) h = absurd (cc)

pub deliver_each : (w : World) (n : ℕ) → Invariant w → EachHas (HasCause w (step.Deliver n)) (refusals w (step.Deliver n))
deliver_each w n i =
    let c = Labels.name w n in
    let p = w.part (w.link_of c) in (
      (λ h. no_message w n i h),
      λ there. (
        (λ h. overtaking w n (p.message c) refl
            (second_holds (Labels.is_number w w.messages n) (is_some (p.message c)) (not-false (Labels.is_in_flight w n) there)) h),
        λ f. (
          (λ h. (
            spent w w.messages 1 (second_holds (delivery_sends p (p.message c)) (Labels.lacks w w.messages 1) h),
            sends_then p (p.message c) (first_holds (delivery_sends p (p.message c)) (Labels.lacks w w.messages 1) h),
          )),
          λ f. tt,
        ),
      ),
    )
