-- Which label a step gives out, and what a pump's answer tells.
use Rattle.std.proofs.Common.{◌≡◌, ◌≢◌, ◌⊎◌, inl, inr, refl, ap, sym, subst, ◌∙◌, ℕ, zero, suc, ◌<◌, Bool, true, false, arith}
use Rattle.std.specs.Prelude.{Option, Some, None, option_map, ◌&&◌, ◌||◌, not, ◌==◌, List, Ok}
use Rattle.std.proofs.lemmas.Bool.{not-true, not-false, eqb-true}
use Rattle.sva_step.specs.declared.answers.Answer.{Answer}
use Rattle.sva_step.specs.declared.answers.Answer.TheVariants as answer
use Rattle.sva_step.specs.declared.limits.Config.{Config}
use Rattle.sva_step.specs.declared.steps.Step.{Step}
use Rattle.sva_step.specs.declared.steps.Step.TheVariants as step
use Rattle.sva_step.specs.Limits
use Rattle.sva_model.specs.Words.{any_below, lowest, find, is_some, holds_of, the}
use Rattle.sva_model.specs.State.{PasidRule, Order, Endpoint, World}
use Rattle.sva_model.specs.State.PasidRule.{PerEndpoint, PerSpace}
use Rattle.sva_model.specs.State.Order.{RangeOf, PasidOf, Wait}
use Rattle.sva_model.specs.State.OrderState.{Queued}
use Rattle.sva_model.specs.State.PageRequestState.{Arrived}
use Rattle.sva_model.specs.State.Phase.{Open}
use Rattle.sva_model.specs.States.{Place, is_unreleased, is_queued, is_busy, is_wait, drains, is_free, is_free_place, place}
use Rattle.sva_model.specs.States.Place.{Free}
use Rattle.sva_model.specs.Labels
use Rattle.sva_model.specs.Refusals.{refusals}
use Rattle.sva_model.specs.Outcomes.{outcome, pump_outcome, head_outcome, wait_outcome, send_outcome, may_pass}
use Rattle.sva_model.specs.Steps.{reply, world_after}
use Rattle.sva_laws.specs.Given.{IsLowestFree, IsBorneBy, IsGivenPasid, GivesLowest, Pumps}
use Rattle.sva_labels.proofs.Words.{none_is, some_the, holds_the, lowest_below, lowest_passes, find_passes, find_some, any_below-false, any_below-true}
use Rattle.sva_labels.proofs.Tests.{is_less, same_frame}
use Rattle.sva_laws.proofs.Bounds.{Bounds}
use Rattle.sva_laws.proofs.Orders.{queued_not}
use Rattle.sva_laws.proofs.PageRequests.{arrived_is}
use Rattle.sva_laws.proofs.Invariant.{Invariant}
use Rattle.sva_laws.proofs.Runs.{always}
use Rattle.sva_laws.proofs.Passed.{opened_is}
use Rattle.sva_laws.proofs.Pasids.{lowest_is, own_or_new, new_is_its}
use Rattle.sva_laws.proofs.LegalUnit.{Head, head_is, wait_legal}
use Rattle.sva_laws.proofs.LegalEndpoint.{index_free}
use Rattle.sva_laws.proofs.Told.{accepted}
use Rattle.sva_laws.proofs.Refused.{not_free, borne_there, all_taken}

-- The lowest free label.

lowest_free : (n : ℕ) (at : ℕ → Option ℕ) (t : ℕ) → (Labels.lowest_label n at == n) ≡ false → Labels.lowest_label n at ≡ t → IsLowestFree n at t
lowest_free n at t h e =
    let l = Labels.lowest_label n at in
    let x = lowest_passes n (λ j. not (is_some (at j))) h in
    subst (IsLowestFree n at) e
    (record {
      low = x.0;
      free = none_is (at l) (not-true (is_some (at l)) x.1);
      taken = λ j m. (the (at j), some_the (at j) (not-false (is_some (at j)) (x.2 j m)));
    })

same_tag : (a b : ℕ) → answer.Tag a ≡ answer.Tag b → a ≡ b
same_tag a b h = cc

same_slot : (a b f g : ℕ) → answer.Use a f ≡ answer.Use b g → a ≡ b
same_slot a b f g h = cc

same_index : (a b : ℕ) → answer.Group a ≡ answer.Group b → a ≡ b
same_index a b h = cc

same_itag : (a b : ℕ) → answer.Itag a ≡ answer.Itag b → a ≡ b
same_itag a b h = cc

same_pasid : (a b c d : ℕ) → answer.Binding a b ≡ answer.Binding c d → b ≡ d
same_pasid a b c d h = cc

-- a pump that answers an ITag
itag_of : (w : World) (e t : ℕ) (b : Bool) → (pump_outcome (w.part e) e b).answer ≡ answer.Itag t
    → IsLowestFree Limits.itags (w.part e).at_itag t
itag_of w e t true h = absurd (cc)
itag_of w e t false h = at_head ((w.part e).order (Labels.head (w.part e))) h
  where
    l : ℕ
    l = Labels.lowest_label Limits.itags (w.part e).at_itag

    sent : (b : Bool) → not (l == Limits.itags) ≡ b → (send_outcome e (Labels.head (w.part e)) l b).answer ≡ answer.Itag t
        → IsLowestFree Limits.itags (w.part e).at_itag t
    sent true f k = lowest_free Limits.itags (w.part e).at_itag t (not-true (l == Limits.itags) f) (same_itag l t k)
    sent false f k = absurd (cc (k))

    waited : (b : Bool) → (wait_outcome e (Labels.head (w.part e)) b).answer ≡ answer.Itag t → ⊥
    waited true k = absurd (cc (k))
    waited false k = absurd (cc (k))

    at_head : (o : Order) → (head_outcome (w.part e) e (Labels.head (w.part e)) o).answer ≡ answer.Itag t
        → IsLowestFree Limits.itags (w.part e).at_itag t
    at_head (Wait cookie drain) k = absurd (waited (may_pass (w.part e) drain) k)
    at_head (RangeOf b range) k = sent (not (l == Limits.itags)) refl k
    at_head (PasidOf b) k = sent (not (l == Limits.itags)) refl k

-- PASIDs.

lower_fails : (n : ℕ) (p : ℕ → Bool) (k j : ℕ) → find n p ≡ Some k → j < k → p j ≡ false
lower_fails n p k j h l = go (p j) refl
  where
    same : Some (lowest n p) ≡ Some k → lowest n p ≡ k
    same e = cc

    go : (b : Bool) → p j ≡ b → p j ≡ false
    go false e = e
    go true e =
        let below : j < n = omega (arith, (find_passes n p k h).0, l) in
        let is : lowest n p ≡ k = same (sym (find_some n p j below e) ∙ h) in
        (lowest_below n p j below e).2 j (omega (arith, l, is))

lowest_before : (p : ℕ → Bool) (t r : ℕ) → Labels.lowest_pasid p ≡ Some t → 0 < r → r < t → p r ≡ false
lowest_before p t zero h pos l = absurd (omega (arith, pos))
lowest_before p t (suc j) h pos l = go (find 32 (λ k. p (suc k))) refl h
  where
    go : (o : Option ℕ) → find 32 (λ k. p (suc k)) ≡ o → option_map suc o ≡ Some t → p (suc j) ≡ false
    go None e k = absurd (cc)
    go (Some m) e k =
        let same : suc m ≡ t = cc in
        lower_fails 32 (λ i. p (suc i)) m j e (omega (arith, l, same))

none_there : (o : Option ℕ) → not (is_some o) ≡ true → o ≡ None
none_there o h = none_is o (not-true (is_some o) h)

isnt_free : (b : Bool) → not b ≡ false → not b ≢ true
isnt_free b h k = absurd (cc (sym h ∙ k))

its_own : (w : World) (s t : ℕ) → Labels.is_borne_by w s t ≡ true → IsBorneBy w t s
its_own w s t h =
    let x = any_below-true w.config.endpoints (λ e. holds_of (λ b. (w.part e).space b == s) ((w.part e).at_pasid t)) h in
    let y = holds_the (λ b. (w.part x.0).space b == s) ((w.part x.0).at_pasid t) x.2 in
    record {
      endpoint = x.0;
      is_endpoint = x.1;
      binding = the ((w.part x.0).at_pasid t);
      bears = y.0;
      its_space = eqb-true ((w.part x.0).space (the ((w.part x.0).at_pasid t))) s y.1;
    }

some_own : (w : World) (t : ℕ) → not (Labels.is_borne w t) ≡ false → (s : ℕ) × IsBorneBy w t s
some_own w t h =
    let x = any_below-true w.config.endpoints (λ e. Labels.is_borne_at (w.part e) t) (not-false (Labels.is_borne w t) h) in
    let at = some_the ((w.part x.0).at_pasid t) x.2 in (
      (w.part x.0).space (the ((w.part x.0).at_pasid t)),
      record { endpoint = x.0; is_endpoint = x.1; binding = the ((w.part x.0).at_pasid t); bears = at; its_space = refl },
    )

nobody : (w : World) (t s : ℕ) → not (Labels.is_borne w t) ≡ true → IsBorneBy w t s → ⊥
nobody w t s h x =
    absurd (cc (sym (any_below-false w.config.endpoints (λ e. Labels.is_borne_at (w.part e) t) (not-true (Labels.is_borne w t) h) x.endpoint x.is_endpoint)
    ∙ ap is_some x.bears))

given_pasid : (rule : PasidRule) (w : World) (e s t : ℕ) → Invariant w → Labels.pasid_by rule w e s ≡ Some t → IsGivenPasid rule w e s t
given_pasid PerEndpoint w e s t i h =
    let p : ℕ → Bool = λ k. not (Labels.is_borne_at (w.part e) k) in
    let x = lowest_is p t h in
    record {
      some = x.0;
      low = x.1;
      free = none_there ((w.part e).at_pasid t) x.2;
      taken = λ r pos l. borne_there (w.part e) r (isnt_free (Labels.is_borne_at (w.part e) r) (lowest_before p t r h pos l));
    }
given_pasid PerSpace w e s t i h =
    go (own_or_new (Labels.lowest_pasid (Labels.is_borne_by w s)) (Labels.lowest_pasid (λ k. not (Labels.is_borne w k))) t h)
  where
    go : (Labels.lowest_pasid (Labels.is_borne_by w s) ≡ Some t)
        ⊎ ((Labels.lowest_pasid (Labels.is_borne_by w s) ≡ None) × (Labels.lowest_pasid (λ k. not (Labels.is_borne w k)) ≡ Some t))
        → IsGivenPasid PerSpace w e s t
    go (inl x) = inl (its_own w s t (lowest_is (Labels.is_borne_by w s) t x).2)
    go (inr x) =
        let y = lowest_is (λ k. not (Labels.is_borne w k)) t x.1 in
        let its = new_is_its w s t i x.0 y.2 in
        inr (record {
          some = y.0;
          low = y.1;
          free = λ owner z. nobody w t owner y.2 z;
          taken = λ r pos l. some_own w r (lowest_before (λ k. not (Labels.is_borne w k)) t r x.1 pos l);
          first = λ d b u same.
              let at = subst (λ z. (w.part d).at_pasid z ≡ Some b) (its.its_pasid d b u same) ((i.parts d).labels.bears_pasid b u) in
              nobody w t s y.2 (record {
                endpoint = d;
                is_endpoint = (i.parts d).there b (λ k. absurd (cc (sym (ap is_unreleased k) ∙ u)));
                binding = b;
                bears = at;
                its_space = same;
              });
        })

-- All of them.

free_place : (x : Place) → is_free_place x ≡ true → x ≡ Free
free_place x h = grind arith

gives : (w : World) → Invariant w → GivesLowest w
gives w i =
    record {
      tag = λ e t q tag h.
          let yes = accepted (refusals w (step.Ask e t q)) (outcome w (step.Ask e t q)) (answer.Tag tag) h in
          lowest_free Limits.request_tags (w.part e).at_tag tag yes.0.1.1.1.0
          (same_tag (Labels.lowest_label Limits.request_tags (w.part e).at_tag) tag yes.1);
      slot = λ e t q slot f x h.
          let yes = accepted (refusals w (step.BeginUse e t q x)) (outcome w (step.BeginUse e t q x)) (answer.Use slot f) h in
          lowest_free Limits.use_slots (w.part e).at_slot slot yes.0.1.1.1.1.1.0
          (same_slot (Labels.lowest_label Limits.use_slots (w.part e).at_slot) slot _ f yes.1);
      index = λ e t q k r x l h.
          let yes = accepted (refusals w (step.Fault e t q r x None l)) (outcome w (step.Fault e t q r x None l)) (answer.Group k) h in
          lowest_free Limits.groups (w.part e).at_index k
          (index_free w.bindings (w.part e) (i.parts e).groups (i.parts e).bounds yes.0.1.1.1.0)
          (same_index (Labels.lowest_label Limits.groups (w.part e).at_index) k yes.1);
      itag = λ e t h.
          let yes = accepted (refusals w (step.Pump e)) (outcome w (step.Pump e)) (answer.Itag t) h in
          itag_of w e t (Labels.is_queue_empty (w.part e)) yes.1;
      frame = λ n q f x h.
          let yes = accepted (refusals w (step.Map n q x)) (outcome w (step.Map n q x)) (answer.Frame f) h in
          let low = lowest_passes w.config.frames (is_free w) yes.0.1.1.1.1.0 in
          subst (λ z. (z < w.config.frames) × (place w z ≡ Free) × ((g : ℕ) → g < z → place w g ≢ Free))
          (same_frame (Labels.lowest_frame w) f yes.1)
          (low.0, free_place (place w (Labels.lowest_frame w)) low.1, λ g l. not_free w g (low.2 g l));
      pasid = λ e n b t h.
          let s = Labels.name w n in
          let yes = accepted (refusals w (step.Bind e n)) (outcome w (step.Bind e n)) (answer.Binding b t) h in
          let some = some_the (Labels.pasid_for w e s) (not-false (is_some (Labels.pasid_for w e s)) yes.0.1.1.1.1.0) in
          given_pasid w.rule w e s t i
          (some ∙ ap (λ z. Some z) (same_pasid (Labels.number w w.bindings) (the (Labels.pasid_for w e s)) b t yes.1));
    }

pub always_gives_lowest : (rule : PasidRule) (config : Config) (steps : List Step) → GivesLowest (world_after rule config steps)
always_gives_lowest rule config steps = gives (world_after rule config steps) (always rule config steps)

-- What a pump's answer tells.

untagged : (w : World) (e : ℕ) → Invariant w → ((k : ℕ) → is_busy ((w.part e).order_state k) ≡ false) → (t : ℕ) → (w.part e).at_itag t ≡ None
untagged w e i none t = go ((w.part e).at_itag t) refl
  where
    go : (o : Option ℕ) → (w.part e).at_itag t ≡ o → o ≡ None
    go None h = refl
    go (Some k) h = absurd (cc (sym (none k) ∙ ((i.parts e).labels.itag_bears t k h).1))

stuck : (w : World) (e cookie : ℕ) (drain : Bool) → (w.part e).order (Labels.head (w.part e)) ≡ Wait cookie drain
    → may_pass (w.part e) drain ≡ false
    → ((k : ℕ) × (is_busy ((w.part e).order_state k) ≡ true))
    ⊎ ((drains ((w.part e).order (Labels.head (w.part e))) ≡ true) × ((r : ℕ) × ((w.part e).page_request r ≡ Arrived)))
stuck w e cookie drain o h =
    elim (either (Labels.is_some_busy p) drain (Labels.is_page_queue_empty p) h)
    [ inl k ↦ inl (busy k) | inr k ↦ inr (ap drains o ∙ k.0, waiting k.1) ]
  where
    p : Endpoint
    p = w.part e

    either : (b d q : Bool) → (not b && (not d || q)) ≡ false → (b ≡ true) ⊎ ((d ≡ true) × (q ≡ false))
    either b d q h = grind arith

    busy : Labels.is_some_busy p ≡ true → (k : ℕ) × (is_busy (p.order_state k) ≡ true)
    busy k = let x = any_below-true p.orders (λ z. is_busy (p.order_state z)) k in (x.0, x.2)

    waiting : Labels.is_page_queue_empty p ≡ false → (r : ℕ) × (p.page_request r ≡ Arrived)
    waiting k =
        let x = any_below-true p.arrivals (Labels.is_waiting p) (not-false (any_below p.arrivals (Labels.is_waiting p)) k) in
        (p.arrival x.0, arrived_is (p.page_request (p.arrival x.0)) x.2)

none_queued : (g : ℕ) (p : Endpoint) → Bounds g p → Labels.is_queue_empty p ≡ true → (k : ℕ) → p.order_state k ≢ Queued
none_queued g p bo h k =
    let f : k < p.orders → is_queued (p.order_state k) ≡ false =
    any_below-false p.orders (λ z. is_queued (p.order_state z)) (not-true (any_below p.orders (λ z. is_queued (p.order_state z))) h) k
    in
    queued_not (p.order_state k) (is_not f)
  where
    is_not : (k < p.orders → is_queued (p.order_state k) ≡ false) → is_queued (p.order_state k) ≡ false
    is_not f = grind (arith, f, bo.order_state k)

-- a wait at the head
wait_pumps : (w : World) (e cookie : ℕ) (drain b : Bool) (said : Answer) → Invariant w → e < w.config.endpoints → (w.part e).phase ≡ Open → Head (w.part e)
    → (w.part e).order (Labels.head (w.part e)) ≡ Wait cookie drain → may_pass (w.part e) drain ≡ b
    → (wait_outcome e (Labels.head (w.part e)) b).answer ≡ said → Pumps (w.part e) said
wait_pumps w e cookie drain true said i there ph hd o m a =
    let legal = (wait_legal w e cookie drain true i there ph hd o m).0.1.0 in
    record {
      quiet = λ h. legal.4;
      untagged = λ h. untagged w e i legal.4;
      drained = λ h d r. legal.5 r d;
      blocked = λ h. absurd (cc (a ∙ h));
      sent = λ t h. absurd (cc (a ∙ h));
      idle = λ h. absurd (cc (a ∙ h));
    }
wait_pumps w e cookie drain false said i there ph hd o m a =
    record {
      quiet = λ h. absurd (cc (a ∙ h));
      untagged = λ h. absurd (cc (a ∙ h));
      drained = λ h. absurd (cc (a ∙ h));
      blocked = λ h. inl (ap is_wait o, stuck w e cookie drain o m);
      sent = λ t h. absurd (cc (a ∙ h));
      idle = λ h. absurd (cc (a ∙ h));
    }

-- an invalidation at the head
send_pumps : (w : World) (e : ℕ) (b : Bool) (said : Answer) → is_wait ((w.part e).order (Labels.head (w.part e))) ≡ false
    → not (Labels.lowest_label Limits.itags (w.part e).at_itag == Limits.itags) ≡ b
    → (send_outcome e (Labels.head (w.part e)) (Labels.lowest_label Limits.itags (w.part e).at_itag) b).answer ≡ said → Pumps (w.part e) said
send_pumps w e true said o m a =
    record {
      quiet = λ h. absurd (cc (a ∙ h));
      untagged = λ h. absurd (cc (a ∙ h));
      drained = λ h. absurd (cc (a ∙ h));
      blocked = λ h. absurd (cc (a ∙ h));
      sent = λ t h. o;
      idle = λ h. absurd (cc (a ∙ h));
    }
send_pumps w e false said o m a =
    record {
      quiet = λ h. absurd (cc (a ∙ h));
      untagged = λ h. absurd (cc (a ∙ h));
      drained = λ h. absurd (cc (a ∙ h));
      blocked = λ h. inr (
        o,
        λ t l. all_taken Limits.itags (w.part e).at_itag
            (not-false (Labels.lowest_label Limits.itags (w.part e).at_itag == Limits.itags) m) t l,
      );
      sent = λ t h. absurd (cc (a ∙ h));
      idle = λ h. absurd (cc (a ∙ h));
    }

head_pumps : (w : World) (e : ℕ) (o : Order) (said : Answer) → Invariant w → e < w.config.endpoints → (w.part e).phase ≡ Open → Head (w.part e)
    → (w.part e).order (Labels.head (w.part e)) ≡ o → (head_outcome (w.part e) e (Labels.head (w.part e)) o).answer ≡ said → Pumps (w.part e) said
head_pumps w e (Wait cookie drain) said i there ph hd o a = wait_pumps w e cookie drain (may_pass (w.part e) drain) said i there ph hd o refl a
head_pumps w e (RangeOf b q) said i there ph hd o a =
    send_pumps w e (not (Labels.lowest_label Limits.itags (w.part e).at_itag == Limits.itags)) said (ap is_wait o) refl a
head_pumps w e (PasidOf b) said i there ph hd o a =
    send_pumps w e (not (Labels.lowest_label Limits.itags (w.part e).at_itag == Limits.itags)) said (ap is_wait o) refl a

unit_pumps : (w : World) (e : ℕ) (b : Bool) (said : Answer) → Invariant w → e < w.config.endpoints → (w.part e).phase ≡ Open
    → Labels.is_queue_empty (w.part e) ≡ b → (pump_outcome (w.part e) e b).answer ≡ said → Pumps (w.part e) said
unit_pumps w e true said i there ph h a =
    record {
      quiet = λ k. absurd (cc (a ∙ k));
      untagged = λ k. absurd (cc (a ∙ k));
      drained = λ k. absurd (cc (a ∙ k));
      blocked = λ k. absurd (cc (a ∙ k));
      sent = λ t k. absurd (cc (a ∙ k));
      idle = λ k. none_queued w.bindings (w.part e) (i.parts e).bounds h;
    }
unit_pumps w e false said i there ph h a =
    head_pumps w e ((w.part e).order (Labels.head (w.part e))) said i there ph (head_is (w.part e) h) refl a

pub always_pumps : (rule : PasidRule) (config : Config) (steps : List Step) (e : ℕ) (said : Answer)
    → reply (world_after rule config steps) (step.Pump e) ≡ Ok said → Pumps ((world_after rule config steps).part e) said
always_pumps rule config steps e said h =
    let w = world_after rule config steps in
    let yes = accepted (refusals w (step.Pump e)) (outcome w (step.Pump e)) said h in
    unit_pumps w e (Labels.is_queue_empty (w.part e)) said (always rule config steps) (is_less e w.config.endpoints yes.0.0)
    (opened_is (w.part e) yes.0.1.0) refl yes.1
