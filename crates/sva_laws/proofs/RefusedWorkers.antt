-- A refused step has its refusal's cause: the steps of workers; and so has every step.
use Rattle.std.proofs.Common.{◌≡◌, ◌≢◌, inl, inr, refl, ap, sym, subst, ◌∙◌, ℕ, ◌+◌, ◌<◌, Bool, true, false, arith}
use Rattle.std.specs.Prelude.{Option, Some, None, ◌&&◌, ◌||◌, not, ◌==◌, nat_lt, if◌then◌else◌, List, [], ◌∷◌, map, length, Err}
use Rattle.std.proofs.lemmas.Bool.Decides.{nat_tests}
use Rattle.std.proofs.lemmas.Bool.{not-true, not-false, eqb-true}
use Rattle.sva_step.specs.declared.limits.Config.{Config}
use Rattle.sva_step.specs.declared.refusals.Refusal.{Refusal}
use Rattle.sva_step.specs.declared.refusals.Refusal.TheVariants as refusal
use Rattle.sva_step.specs.declared.steps.Step.{Step}
use Rattle.sva_step.specs.declared.steps.Step.TheVariants as step
use Rattle.sva_step.specs.declared.steps.Verdict.{Verdict}
use Rattle.sva_step.specs.declared.steps.Verdict.TheVariants as verdict_is
use Rattle.sva_step.specs.Limits
use Rattle.sva_model.specs.Words.{any_below, select, is_some, holds_of, the}
use Rattle.sva_model.specs.Message.{Code}
use Rattle.sva_model.specs.Message.Code.{SuccessCode, InvalidCode, FailureCode}
use Rattle.sva_model.specs.State.{PasidRule, HostGroupState, Stage, World}
use Rattle.sva_model.specs.State.HostGroupState.{Job}
use Rattle.sva_model.specs.State.Stage.{Live, Stopping, Draining}
use Rattle.sva_model.specs.State.Phase.{Open}
use Rattle.sva_model.specs.States.{is_open, is_job, is_before_invalidating}
use Rattle.sva_model.specs.Labels
use Rattle.sva_model.specs.Refusals.{refusals, reply_refusals}
use Rattle.sva_model.specs.Replies.{response, response_to, responds, replies_success, is_success, is_write_of_read_only, unseen, newly_mapped}
use Rattle.sva_model.specs.Replies.{job_part, job_space, job_asks}
use Rattle.sva_model.specs.Outcomes.{outcome}
use Rattle.sva_model.specs.Steps.{reply, world_after}
use Rattle.sva_laws.specs.Asked.{IsAskedFor, stage_of}
use Rattle.sva_laws.specs.Causes.{IsNotIn, AreNewPages, IsOfNewPages}
use Rattle.sva_laws.specs.EndpointCauses.{HasCause, IsBadVerdict}
use Rattle.sva_labels.proofs.Words.{none_is, some_the, holds_the, any_below-false}
use Rattle.sva_labels.proofs.Tests.{first_holds, second_holds, is_itself}
use Rattle.sva_laws.proofs.Resets.{open_is}
use Rattle.sva_laws.proofs.Invariant.{Invariant}
use Rattle.sva_laws.proofs.Runs.{always}
use Rattle.sva_laws.proofs.Asked.{Has, map_has, select_has, any_has, asked_is, live_code, success_of}
use Rattle.sva_laws.proofs.Refused.{spent, EachHas, has_cause, not_lower, is_lower}
use Rattle.sva_laws.proofs.Refused.{space_each, drop_each, map_each, unmap_each, unmap_range_each, bind_each, unbind_step_each, advance_step_each}
use Rattle.sva_laws.proofs.Refused.{pump_each, serve_each, reset_each, look_each, bearer_each}
use Rattle.sva_laws.proofs.RefusedEndpoints.{ask_each, begin_each, end_each, evict_each, fault_each, finish_each, quit_each, deliver_each}

-- Workers.

pub take_each : (w : World) (x : ℕ) → EachHas (HasCause w (step.Take x)) (refusals w (step.Take x))
take_each w x = (
  (λ h. not_lower x w.config.workers h),
  λ f. (
    (λ h. (the (w.hand x), some_the (w.hand x) h)),
    λ f. ((λ h. (λ j l. no_job j (any_below-false w.jobs (Labels.is_queued_job w) (not-true (any_below w.jobs (Labels.is_queued_job w)) h) j l))), λ f. tt),
  ),
)
  where
    isnt : (z : HostGroupState) → is_job z ≡ false → z ≢ Job
    isnt z h e = absurd (cc (sym (ap is_job e) ∙ h))

    no_job : (j : ℕ) → Labels.is_queued_job w j ≡ false → (job_part w j).host_group (w.job j).group ≢ Job
    no_job j h = isnt ((job_part w j).host_group (w.job j).group) h

-- a success is said for a Live binding at an open unit
success_says : (w : World) (j : ℕ) (v : Verdict) → replies_success w j v ≡ true
    → ((job_part w j).phase ≡ Open) × (stage_of w j ≡ Live) × (v ≡ verdict_is.Success)
success_says w j v h = go (response_to w j v) refl h
  where
    go : (o : Option Code) → response_to w j v ≡ o → is_success o ≡ true
        → ((job_part w j).phase ≡ Open) × (stage_of w j ≡ Live) × (v ≡ verdict_is.Success)
    go (Some SuccessCode) r k =
        let y = live_code (is_open (job_part w j).phase) (stage_of w j) v SuccessCode r (inl refl) in
        (open_is (job_part w j) y.0, y.1, success_of v y.2)
    go (Some InvalidCode) r k = absurd (cc)
    go (Some FailureCode) r k = absurd (cc)
    go None r k = absurd (cc)

-- a response is sent at an open unit, for a binding that isn't invalidated yet
responds_then : (b : Bool) (s : Stage) → is_some (response b s verdict_is.Invalid) ≡ true → (b ≡ true) × (is_before_invalidating s ≡ true)
responds_then true Live h = (refl, refl)
responds_then true (Stopping m) h = (refl, refl)
responds_then true (Draining x) h = (refl, refl)
responds_then b s h = absurd (grind arith)

-- what isn't seen yet, each once
not_in : (seen : ℕ → Bool) (q : ℕ) (qs : List ℕ) → seen q ≡ true → IsNotIn q (unseen seen qs)
not_in seen q [] h = tt
not_in seen q (x ∷ qs) h = go (seen x) refl (not_in seen q qs h) (λ k. not_in (λ y. y == x || seen y) q qs k)
  where
    other : seen x ≡ false → x ≢ q
    other f e = absurd (cc (sym f ∙ ap seen e ∙ h))

    still : (a : Bool) → (a || seen q) ≡ true
    still true = refl
    still false = h

    go : (b : Bool) → seen x ≡ b → IsNotIn q (unseen seen qs) → ((q == x || seen q) ≡ true → IsNotIn q (unseen (λ y. y == x || seen y) qs))
        → IsNotIn q (if b then unseen seen qs else x ∷ unseen (λ y. y == x || seen y) qs)
    go true e same more = same
    go false e same more = (other e, more (still (q == x)))

new_pages : (w : World) (j : ℕ) (seen : ℕ → Bool) (qs : List ℕ) → ((q : ℕ) → Has qs q → IsAskedFor w j q)
    → ((q : ℕ) → seen q ≡ false → w.mappings.at (job_space w j) q ≡ None) → AreNewPages w j (unseen seen qs)
new_pages w j seen [] asked none = tt
new_pages w j seen (x ∷ qs) asked none =
    go (seen x) refl (new_pages w j seen qs (λ q h. asked q (inr h)) none)
    (new_pages w j (λ y. y == x || seen y) qs (λ q h. asked q (inr h)) (λ q h. none q (rest q h)))
  where
    rest : (q : ℕ) → (q == x || seen q) ≡ false → seen q ≡ false
    rest q h = grind (arith, nat_tests)

    itself : (a : Bool) → (x == x || a) ≡ true
    itself a = ap (λ b. b || a) (is_itself x)

    go : (b : Bool) → seen x ≡ b → AreNewPages w j (unseen seen qs) → AreNewPages w j (unseen (λ y. y == x || seen y) qs)
        → AreNewPages w j (if b then unseen seen qs else x ∷ unseen (λ y. y == x || seen y) qs)
    go true e same more = same
    go false e same more = (asked x (inl refl), none x e, not_in (λ y. y == x || seen y) x qs (itself (seen x)), more)

newly_are_new : (w : World) (j : ℕ) → AreNewPages w j (newly_mapped w j)
newly_are_new w j =
    new_pages w j (Labels.is_mapped w (job_space w j)) (map (job_part w j).asked_page (job_asks w j)) (λ q h. asked_is w j q h)
    (λ q h. none_is (w.mappings.at (job_space w j) q) h)

-- a page request of the job that asks to write a page which is read-only
writes_read_only : (w : World) (j : ℕ) → is_write_of_read_only w j ≡ true
    → (k : ℕ) × (m : ℕ) × (k < (job_part w j).filings) × ((job_part w j).group_of ((job_part w j).filing k) ≡ (w.job j).group)
    × ((job_part w j).asks_write ((job_part w j).filing k) ≡ true)
    × (w.mappings.at (job_space w j) ((job_part w j).asked_page ((job_part w j).filing k)) ≡ Some m)
    × (w.mappings.write m ≡ false)
writes_read_only w j h =
    let p = job_part w j in
    let is_bad : ℕ → Bool = λ r. p.asks_write r && holds_of (λ m. not (w.mappings.write m)) (w.mappings.at (job_space w j) (p.asked_page r)) in
    let is_of : ℕ → Bool = λ k. p.group_of (p.filing k) == (w.job j).group in
    let x = any_has is_bad (job_asks w j) h in
    let y = map_has p.filing (select p.filings is_of) x.0 x.1 in
    let z = select_has p.filings is_of y.0 y.1 in
    let bad : is_bad (p.filing y.0) ≡ true = ap is_bad y.2 ∙ x.2 in
    let at : Option ℕ = w.mappings.at (job_space w j) (p.asked_page (p.filing y.0)) in
    let held = holds_the (λ m. not (w.mappings.write m)) at
    (second_holds (p.asks_write (p.filing y.0)) (holds_of (λ m. not (w.mappings.write m)) at) bad) in (
      y.0,
      the at,
      z.0,
      eqb-true (p.group_of (p.filing y.0)) (w.job j).group z.1,
      first_holds (p.asks_write (p.filing y.0)) (holds_of (λ m. not (w.mappings.write m)) at) bad,
      held.0,
      not-true (w.mappings.write (the at)) held.1,
    )

pub reply_each : (w : World) (x : ℕ) (v : Verdict) → EachHas (HasCause w (step.Reply x v)) (refusals w (step.Reply x v))
reply_each w x v = (
  (λ h. not_lower x w.config.workers h),
  λ f. ((λ h. none_is (w.hand x) (not-true (is_some (w.hand x)) h)), λ f. of_job (some_the (w.hand x) (not-false (is_some (w.hand x)) f))),
)
  where
    j : ℕ
    j = the (w.hand x)

    new : (P : (j : ℕ) → List ℕ → Type 0) → w.hand x ≡ Some j → replies_success w j v ≡ true → P j (newly_mapped w j) → IsOfNewPages w x P
    new P hand s k = let y = success_says w j v s in (j, hand, y.0, y.1, (newly_mapped w j, newly_are_new w j, k))

    said : replies_success w j v ≡ true → verdict_is.Success ≡ v
    said s = sym (success_says w j v s).2

    bad : w.hand x ≡ Some j → replies_success w j v ≡ true → is_write_of_read_only w j ≡ true → IsBadVerdict w (step.Reply x verdict_is.Success)
    bad hand s k = let y = success_says w j v s in (j, hand, y.0, y.1, writes_read_only w j k)

    room : Bool
    room = nat_lt (Labels.free_frames w) (length (newly_mapped w j))

    full : Bool
    full = nat_lt Limits.most_mapped (Labels.pages_of w (job_space w j) + length (newly_mapped w j))

    of_job : w.hand x ≡ Some j → EachHas (HasCause w (step.Reply x v)) (reply_refusals w j v)
    of_job hand = (
      (λ h. let s = first_holds (replies_success w j v) (is_write_of_read_only w j) h in
          subst (λ z. IsBadVerdict w (step.Reply x z)) (said s) (bad hand s (second_holds (replies_success w j v) (is_write_of_read_only w j) h))),
      λ f. (
        (λ h. let s = first_holds (replies_success w j v) room h in
            subst (λ z. HasCause w (step.Reply x z) refusal.NoFrame) (said s)
            (new (λ k pages. Labels.free_frames w < length pages) hand s
            (is_lower (Labels.free_frames w) (length (newly_mapped w j)) (second_holds (replies_success w j v) room h)))),
        λ f. (
          (λ h. let s = first_holds (replies_success w j v) full h in
              subst (λ z. HasCause w (step.Reply x z) refusal.SpaceFull) (said s)
              (new (λ k pages. Limits.most_mapped < Labels.pages_of w (job_space w k) + length pages) hand s
              (is_lower Limits.most_mapped (Labels.pages_of w (job_space w j) + length (newly_mapped w j)) (second_holds (replies_success w j v) full h)))),
          λ f. (
            (λ h. (
              spent w w.messages 1 (second_holds (responds w j) (Labels.lacks w w.messages 1) h),
              answers (first_holds (responds w j) (Labels.lacks w w.messages 1) h) hand,
            )),
            λ f. tt,
          ),
        ),
      ),
    )
      where
        answers : responds w j ≡ true → w.hand x ≡ Some j
            → (k : ℕ) × (w.hand x ≡ Some k) × ((job_part w k).phase ≡ Open) × (is_before_invalidating (stage_of w k) ≡ true)
        answers h hand = let y = responds_then (is_open (job_part w j).phase) (stage_of w j) h in (j, hand, open_is (job_part w j) y.0, y.1)

-- Every step.

each : (w : World) (s : Step) → Invariant w → EachHas (HasCause w s) (refusals w s)
each w step.Space i = space_each w
each w (step.DropSpace n) i = drop_each w n i
each w (step.Map n q x) i = map_each w n q x i
each w (step.Unmap n q count) i = unmap_each w n q count i
each w (step.UnmapRange n q order) i = unmap_range_each w n q order i
each w (step.Bind e n) i = bind_each w e n i
each w (step.Unbind n) i = unbind_step_each w n i
each w (step.Advance n) i = advance_step_each w n i
each w (step.Pump e) i = pump_each w e
each w (step.Serve e) i = serve_each w e
each w (step.Reset e) i = reset_each w e
each w (step.Take x) i = take_each w x
each w (step.Reply x v) i = reply_each w x v
each w (step.Ask e t q) i = ask_each w e t q
each w (step.BeginUse e t q x) i = begin_each w e t q x i
each w (step.EndUse e t) i = end_each w e t i
each w (step.Evict e t q) i = evict_each w e t q i
each w (step.Fault e t q r x group l) i = fault_each w e t q r x l group
each w (step.Finish e vector count) i = finish_each w e vector count
each w (step.Quit e t) i = quit_each w e t
each w (step.Deliver n) i = deliver_each w n i
each w (step.Look f) i = look_each w f
each w (step.Bearer t) i = bearer_each w t

pub always_has_cause : (rule : PasidRule) (config : Config) (steps : List Step) (s : Step) (r : Refusal)
    → reply (world_after rule config steps) s ≡ Err r → HasCause (world_after rule config steps) s r
always_has_cause rule config steps s r h =
    let w = world_after rule config steps in
    has_cause (HasCause w s) (refusals w s) (outcome w s) r (each w s (always rule config steps)) h
