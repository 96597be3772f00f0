-- An endpoint has answered what it owes since a pump that passed the wait that it owed, or the delivery of its reset-done.
use Rattle.std.proofs.Common.{◌≡◌, ◌⊎◌, inl, inr, refl, ap, sym, subst, ◌∙◌, ℕ, suc, ◌+◌, ◌≤◌, Bool, true, false, arith}
use Rattle.std.specs.Prelude.{Option, Some, None, ◌&&◌, nat_lt, List, [], ◌∷◌, ◌++◌, Ok}
use Rattle.std.proofs.lemmas.Bool.{ltb-false}
use Rattle.sva_step.specs.declared.answers.Answer.{Answer}
use Rattle.sva_step.specs.declared.limits.Config.{Config}
use Rattle.sva_step.specs.declared.steps.Step.{Step}
use Rattle.sva_model.specs.Words.{all_below}
use Rattle.sva_model.specs.State.{PasidRule, Owed, OrderState, Endpoint, World}
use Rattle.sva_model.specs.State.Subject.{ResetDone}
use Rattle.sva_model.specs.State.Owed.{Nothing, Ranges, Pasid, NextReset}
use Rattle.sva_model.specs.State.OrderState.{Completing, Done}
use Rattle.sva_model.specs.State.MappingState.{Present, Gone}
use Rattle.sva_model.specs.States.{Place, is_done, is_busy, answered, place, place_at, place_by}
use Rattle.sva_model.specs.States.Place.{Free, Mapped, Withheld}
use Rattle.sva_model.specs.Unmappings.{submits, submitted_if, bound, cookie_of}
use Rattle.sva_model.specs.Acts.{LocalAct, act_alone}
use Rattle.sva_model.specs.Steps.{reply, decide, next, after_acts, world_after}
use Rattle.sva_laws.specs.UnitSteps.{Delivers, PassesWait, CompletesOrder}
use Rattle.sva_laws.specs.Waits.{IsBehind, FitsDebt}
use Rattle.sva_laws.specs.Steps.{wait_of, AnswersBy}
use Rattle.sva_labels.proofs.Words.{all_below-true}
use Rattle.sva_labels.proofs.Words.{all_below-intro}
use Rattle.sva_laws.proofs.Legal.{LegalLocalAct}
use Rattle.sva_laws.proofs.Orders.{Orders}
use Rattle.sva_laws.proofs.Invariant.{Invariant}
use Rattle.sva_laws.proofs.Keeps.{put_keeps}
use Rattle.sva_laws.proofs.Passed.{LegalAll}
use Rattle.sva_laws.proofs.Runs.{always, step_legal}
use Rattle.sva_laws.proofs.Lookback.{after_one, moves}
use Rattle.sva_laws.proofs.StepKinds.{IsBy, Kind, step_kind}
use Rattle.sva_laws.proofs.StepKinds.Kind.{calm, single, unmapping}
use Rattle.sva_laws.proofs.UnitSteps.{Changes, changes, delivers, same_acts, always_counts}
use Rattle.sva_laws.proofs.Debts.{always_debts}
use Rattle.sva_laws.proofs.Freed.{next_place}
use Rattle.sva_laws.proofs.Answered.{or_more as or_kept}
use Rattle.sva_laws.proofs.Answered.{and_more as and_kept}
use Rattle.sva_laws.proofs.Answered.{less_more as more}
use Rattle.sva_labels.proofs.Tests.{first_fails, one_holds, second_fails, second_holds}

-- the counter of reset-dones stays, or a reset-done is delivered
own_counts : (w : World) (s : Step) (e : ℕ) (a : Answer) (o : LocalAct) → reply w s ≡ Ok a → IsBy w s e o a → LegalLocalAct w.mappings w.bindings (w.part e) o
    → ((act_alone (w.part e) w.messages o).resets ≡ (w.part e).resets) ⊎ Delivers w s e ResetDone
own_counts w s e a (LocalAct.Reopen c) h by l = inr (delivers w s e c a ResetDone h by l.0)
own_counts w s e a _ h by l = inl refl

submitted_counts : (t : Bool) (p : Endpoint) (o : Option ℕ) (q count order cookie : ℕ) → (submitted_if t p o q count order cookie).resets ≡ p.resets
submitted_counts true p (Some b) q count order cookie = refl
submitted_counts true p None q count order cookie = refl
submitted_counts false p o q count order cookie = refl

next_counts : (w : World) (s : Step) (e : ℕ) → Invariant w → (((next w s).part e).resets ≡ (w.part e).resets) ⊎ Delivers w s e ResetDone
next_counts w s e i = go (step_kind w s)
  where
    go : Kind w s (decide w s) → (((next w s).part e).resets ≡ (w.part e).resets) ⊎ Delivers w s e ResetDone
    go (calm h) = inl (same_acts (decide w s).acts w h e).resets
    go (single d o a x h by) =
        subst (λ z. (((after_acts w z).part e).resets ≡ (w.part e).resets) ⊎ Delivers w s e ResetDone) (sym x)
        (put_keeps (λ k q. (q.resets ≡ (w.part k).resets) ⊎ Delivers w s k ResetDone) w.part d (act_alone (w.part d) w.messages o)
        (own_counts w s d a o h by ((subst (LegalAll w) x (step_legal w s i)).0).1.0)
        (λ k. inl refl)
        e)
    go (unmapping t q count order x) =
        inl (ap (λ z. ((after_acts w z).part e).resets) x ∙ submitted_counts (submits w t e) (w.part e) (bound w e t) q count order (cookie_of w t e))

-- the counter never falls
never_falls : (p q : Endpoint) (R : Type 0) → (q.resets ≡ p.resets) ⊎ R → (R → q.resets ≡ suc p.resets) → p.resets ≤ q.resets
never_falls p q R (inl e) f = omega (arith, e)
never_falls p q R (inr r) f = let e = f r in omega (arith, e)

done_is : (x : OrderState) → is_done x ≡ true → x ≡ Done
done_is x h = grind arith

-- what is answered stays so
stays : (p q : Endpoint) (v : Owed) → ((k : ℕ) → p.order_state k ≡ Done → q.order_state k ≡ Done) → p.resets ≤ q.resets → answered p v ≡ true
    → answered q v ≡ true
stays p q Nothing d r h = refl
stays p q (NextReset resets) d r h = more resets p.resets q.resets r h
stays p q (Ranges first count resets) d r h =
    or_kept (all_below (suc count) (λ j. is_done (p.order_state (first + j)))) (nat_lt resets p.resets)
    (all_below (suc count) (λ j. is_done (q.order_state (first + j)))) (nat_lt resets q.resets)
    (λ a. all_below-intro (suc count) (λ j. is_done (q.order_state (first + j)))
    (λ j l. on (first + j) (all_below-true (suc count) (λ k. is_done (p.order_state (first + k))) a j l)))
    (more resets p.resets q.resets r)
    h
  where
    on : (k : ℕ) → is_done (p.order_state k) ≡ true → is_done (q.order_state k) ≡ true
    on k x = ap is_done (d k (done_is (p.order_state k) x))
stays p q (Pasid invalidation wait resets in_reset) d r h =
    or_kept (is_done (p.order_state invalidation) && is_done (p.order_state wait)) (nat_lt resets p.resets)
    (is_done (q.order_state invalidation) && is_done (q.order_state wait)) (nat_lt resets q.resets)
    (and_kept (is_done (p.order_state invalidation)) (is_done (p.order_state wait)) (is_done (q.order_state invalidation))
    (is_done (q.order_state wait)) (on invalidation) (on wait))
    (more resets p.resets q.resets r)
    h
  where
    on : (k : ℕ) → is_done (p.order_state k) ≡ true → is_done (q.order_state k) ≡ true
    on k x = ap is_done (d k (done_is (p.order_state k) x))

-- What turns it.

by_reset : (p q : Endpoint) (R : Type 0) (resets : ℕ) → nat_lt resets p.resets ≡ false → (q.resets ≡ p.resets) ⊎ R → nat_lt resets q.resets ≡ true → R
by_reset p q R resets h (inl e) k = absurd (cc (sym h ∙ ap (nat_lt resets) (sym e) ∙ k))
by_reset p q R resets h (inr r) k = r

by_wait : (w : World) (s : Step) (e : ℕ) (q : Endpoint) (first wait resets : ℕ) → IsBehind (w.part e) first wait resets → Orders (w.part e)
    → Changes w s e (w.part e) q → nat_lt resets (w.part e).resets ≡ false → (((k : ℕ) → first ≤ k → k ≤ wait → (w.part e).order_state k ≡ Done) → ⊥)
    → q.order_state wait ≡ Done → PassesWait w s e wait
by_wait w s e q first wait resets b or c h un d = go (c.done wait d)
  where
    same : resets ≡ (w.part e).resets
    same = let l = ltb-false resets (w.part e).resets h in let k = b.counted in omega (arith, l, k)

    busy : (count : ℕ) → (w.part e).order_state wait ≡ Completing count 1 → ⊥
    busy count x = absurd (cc (sym b.is_a_wait ∙ or.no_wait wait (ap is_busy x)))

    go : ((w.part e).order_state wait ≡ Done) ⊎ (PassesWait w s e wait ⊎ CompletesOrder w s e wait) → PassesWait w s e wait
    go (inl x) = absurd (un (b.done same x))
    go (inr (inl x)) = x
    go (inr (inr x)) = absurd (busy x.count x.one_left)

both : (t : Bool) → t ≡ true → t ≡ false → ⊥
both t h k = absurd (cc)

turns : (w : World) (s : Step) (e : ℕ) (q : Endpoint) (v : Owed) → FitsDebt (w.part e) v → Orders (w.part e) → Changes w s e (w.part e) q
    → (q.resets ≡ (w.part e).resets) ⊎ Delivers w s e ResetDone → answered (w.part e) v ≡ false → answered q v ≡ true → PassesWait w s e (wait_of v)
    ⊎ Delivers w s e ResetDone
turns w s e q Nothing f or c r un h = absurd (cc)
turns w s e q (NextReset resets) f or c r un h = inr (by_reset (w.part e) q (Delivers w s e ResetDone) resets un r h)
turns w s e q (Ranges first count resets) f or c r un h =
    go (one_holds (all_below (suc count) (λ j. is_done (q.order_state (first + j)))) (nat_lt resets q.resets) h)
  where
    was : Bool
    was = all_below (suc count) (λ j. is_done ((w.part e).order_state (first + j)))

    no_reset : nat_lt resets (w.part e).resets ≡ false
    no_reset = second_fails was (nat_lt resets (w.part e).resets) un

    undone : ((k : ℕ) → first ≤ k → k ≤ first + count → (w.part e).order_state k ≡ Done) → ⊥
    undone all =
        both was (all_below-intro (suc count) (λ j. is_done ((w.part e).order_state (first + j)))
        (λ j l. ap is_done (all (first + j) (omega arith) (omega (arith, l)))))
        (first_fails was (nat_lt resets (w.part e).resets) un)

    go : (all_below (suc count) (λ j. is_done (q.order_state (first + j))) ≡ true) ⊎ (nat_lt resets q.resets ≡ true)
        → PassesWait w s e (first + count) ⊎ Delivers w s e ResetDone
    go (inl x) = inl (by_wait w s e q first (first + count) resets f.1 or c no_reset undone
        (done_is (q.order_state (first + count)) (all_below-true (suc count) (λ j. is_done (q.order_state (first + j))) x count (omega arith))))
    go (inr x) = inr (by_reset (w.part e) q (Delivers w s e ResetDone) resets no_reset r x)
turns w s e q (Pasid invalidation wait resets in_reset) f or c r un h =
    go (one_holds (is_done (q.order_state invalidation) && is_done (q.order_state wait)) (nat_lt resets q.resets) h)
  where
    was : Bool
    was = is_done ((w.part e).order_state invalidation) && is_done ((w.part e).order_state wait)

    no_reset : nat_lt resets (w.part e).resets ≡ false
    no_reset = second_fails was (nat_lt resets (w.part e).resets) un

    low : invalidation ≤ wait
    low = let k = f.0 in omega (arith, k)

    undone : ((k : ℕ) → invalidation ≤ k → k ≤ wait → (w.part e).order_state k ≡ Done) → ⊥
    undone all =
        both was
        (and_kept true true (is_done ((w.part e).order_state invalidation)) (is_done ((w.part e).order_state wait))
        (λ x. ap is_done (all invalidation (omega arith) low)) (λ x. ap is_done (all wait low (omega arith))) refl)
        (first_fails was (nat_lt resets (w.part e).resets) un)

    go : ((is_done (q.order_state invalidation) && is_done (q.order_state wait)) ≡ true) ⊎ (nat_lt resets q.resets ≡ true) → PassesWait w s e wait
        ⊎ Delivers w s e ResetDone
    go (inl x) = inl (by_wait w s e q invalidation wait resets f.1 or c no_reset undone
        (done_is (q.order_state wait) (second_holds (is_done (q.order_state invalidation)) (is_done (q.order_state wait)) x)))
    go (inr x) = inr (by_reset (w.part e) q (Delivers w s e ResetDone) resets no_reset r x)

pub always_answers : (rule : PasidRule) (config : Config) (steps : List Step) (s : Step) (m e : ℕ) (owed : ℕ → Owed)
    → (world_after rule config steps).mappings.state m ≡ Gone owed
    → AnswersBy (world_after rule config steps) (world_after rule config (steps ++ s ∷ [])) s m e owed
always_answers rule config steps s m e owed g =
    let w = world_after rule config steps in
    let i = always rule config steps in
    let c = changes w s e i in
    let r = next_counts w s e i in
    let rises : Delivers w s e ResetDone → ((next w s).part e).resets ≡ suc (w.part e).resets =
    λ d. ap (λ v. (v.part e).resets) (sym (after_one rule config steps s)) ∙ (always_counts rule config steps s e).rises d
    in
    subst (λ v. AnswersBy w v s m e owed) (sym (after_one rule config steps s))
    (record {
      still = (moves w s i).gone_on m owed g;
      stays = stays (w.part e) ((next w s).part e) (owed e) c.done_on (never_falls (w.part e) ((next w s).part e) (Delivers w s e ResetDone) r rises);
      turns = turns w s e ((next w s).part e) (owed e) (always_debts rule config steps m e owed g) (i.parts e).orders c r;
    })

-- while a frame is withheld, no step maps it
next_latest : (w : World) (s : Step) (f : ℕ) → Invariant w → place w f ≡ Withheld → (next w s).mappings.latest f ≡ w.mappings.latest f
next_latest w s f i h = go ((moves w s i).latest_new f)
  where
    not_mapped : (x : Place) → (x ≡ Free) ⊎ (x ≡ Withheld) → x ≡ Mapped → ⊥
    not_mapped x (inl a) b = absurd (cc)
    not_mapped x (inr a) b = absurd (cc)

    go : ((next w s).mappings.latest f ≡ w.mappings.latest f)
        ⊎ ((z : ℕ) × ((next w s).mappings.latest f ≡ Some z) × ((next w s).mappings.state z ≡ Present)) → (next w s).mappings.latest f ≡ w.mappings.latest f
    go (inl x) = x
    go (inr x) = absurd (not_mapped (place (next w s) f) (next_place w s f i h) (ap (place_at (next w s)) x.1 ∙ ap (place_by (next w s)) x.2))

pub always_latest : (rule : PasidRule) (config : Config) (steps : List Step) (s : Step) (f : ℕ) → place (world_after rule config steps) f ≡ Withheld
    → (world_after rule config (steps ++ s ∷ [])).mappings.latest f ≡ (world_after rule config steps).mappings.latest f
always_latest rule config steps s f h = ap (λ v. v.mappings.latest f) (after_one rule config steps s)
    ∙ next_latest (world_after rule config steps) s f (always rule config steps) h
