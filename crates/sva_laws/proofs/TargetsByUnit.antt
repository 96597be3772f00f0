-- Which wait, or which reset's end, an endpoint that hasn't answered is waited for by, over the list of steps.
use Rattle.std.proofs.Common.{◌≡◌, ◌≢◌, inl, inr, refl, ap, sym, subst, ◌∙◌, ℕ, suc, ◌+◌, ◌<◌, Bool, true, false, arith, append_assoc}
use Rattle.std.specs.Prelude.{◌↔◌, Option, Some, None, not, List, [], ◌∷◌, ◌++◌, if◌then◌else◌}
use Rattle.std.proofs.lemmas.Bool.{false_from_ne_true}
use Rattle.sva_step.specs.declared.limits.Config.{Config}
use Rattle.sva_step.specs.declared.steps.Step.{Step}
use Rattle.sva_model.specs.State.{PasidRule, Owed, Order, Stage, Endpoint, World, opened}
use Rattle.sva_model.specs.State.Owed.{Ranges, Pasid, NextReset}
use Rattle.sva_model.specs.State.MappingState.{Present, Gone}
use Rattle.sva_model.specs.State.Stage.{Unbound, Live, Stopping, Draining, Invalidating, Quiet, Lost, Released}
use Rattle.sva_model.specs.State.Order.{Wait}
use Rattle.sva_model.specs.State.Phase.{Open}
use Rattle.sva_model.specs.States.{is_open, is_unreleased, is_before_invalidating, answered}
use Rattle.sva_model.specs.Unmappings.{owed_by, owed_by_stage, owed_by_unit, submits_at, submitted_if, cookie_of}
use Rattle.sva_model.specs.Steps.{next, world_after}
use Rattle.sva_model.specs.Wire.{TargetWire, number, cookie_number, target_of, target_wire}
use Rattle.sva_model.specs.Wire.TargetWire.{Cookie, ResetEnd}
use Rattle.sva_model.specs.Claims.{IsBeforeInvalidating, HasAnswered}
use Rattle.sva_model.specs.Claims.HasAnswered.{was_done}
use Rattle.sva_laws.specs.Waits.{FitsDebt, AwaitsTarget}
use Rattle.sva_laws.specs.Fronts.{IsTarget, KeepsTargets, part_after}
use Rattle.sva_laws.specs.Fronts.IsTarget.{submitted, invalidating, reset_end}
use Rattle.sva_laws.proofs.Resets.{open_is, closed_is}
use Rattle.sva_laws.proofs.Unmap.{bound_is}
use Rattle.sva_laws.proofs.Fronts.{always_fronts}
use Rattle.sva_laws.proofs.Debts.{always_debts}
use Rattle.sva_laws.proofs.Targets.{awaits, no_reset}
use Rattle.sva_laws.proofs.Withheld.{then_part}
use Rattle.sva_laws.proofs.Lookback.{Goes, run_append, after_one, moves, later}
use Rattle.sva_laws.proofs.Lookback.Goes.{unmapped, dropped}
use Rattle.sva_laws.proofs.ByUnit.{AllAnswered, unit_answers}
use Rattle.sva_laws.proofs.FrontExact.{same_order, is_ahead}
use Rattle.sva_laws.proofs.Runs.{always, next_keeps}
use Rattle.sva_labels.proofs.Tests.{second_fails}

-- what is kept of a debt
abbrev kept_by : Bool → TargetWire → Option TargetWire
kept_by b t = if b then None else Some t

none_answered : (b : Bool) (t : TargetWire) → kept_by b t ≡ None → b ≡ true
none_answered true t h = refl
none_answered false t h = absurd (cc)

kept_is : (first : ℕ) (p : Endpoint) (v : Owed) (t : TargetWire) → answered p v ≡ false → target_of first p v ≡ t → target_wire first p v ≡ Some t
kept_is first p v t h e = ap (λ b. kept_by b (target_of first p v)) h ∙ ap (λ z. Some z) e

-- what is waited for, where the debt is this
abbrev HasTarget : PasidRule → (c : Config) → (before : List Step) → Step → (since : List Step) → (e binding : ℕ) → Owed → Type 0
HasTarget rule c before step since e b v =
    (target : TargetWire) × (target_wire c.first (part_after rule c (before ++ step ∷ since) e) v ≡ Some target)
    × IsTarget rule c before step since e b target

-- an order that was there after the step is what it was submitted as
then_order : (rule : PasidRule) (c : Config) (before : List Step) (step : Step) (since : List Step) (e k : ℕ) (o : Order)
    → k < (part_after rule c (before ++ step ∷ []) e).orders → (part_after rule c (before ++ step ∷ since) e).order k ≡ o
    → (part_after rule c (before ++ step ∷ []) e).order k ≡ o
then_order rule c before step since e k o made h =
    sym (same_order rule c (before ++ step ∷ []) since e k made).1
    ∙ subst (λ z. (part_after rule c z e).order k ≡ o) (sym (append_assoc before (step ∷ []) since)) h

orders_then : (p q : Endpoint) (b page count order cookie : ℕ) → q ≡ submitted_if (submits_at p (Some b)) p (Some b) page count order cookie
    → submits_at p (Some b) ≡ true → q.orders ≡ p.orders + suc count
orders_then p q b page count order cookie h s =
    ap (λ z. z.orders) h ∙ ap (λ t. (submitted_if t p (Some b) page count order cookie).orders) s

before_is : (p : Endpoint) (b : ℕ) → IsBeforeInvalidating p b → is_before_invalidating (p.stage b) ≡ true
before_is p b (inl h) = ap is_before_invalidating h
before_is p b (inr (inl h)) = ap is_before_invalidating h.1
before_is p b (inr (inr h)) = ap is_before_invalidating h.1

submits_is : (p : Endpoint) (b : ℕ) → is_open p.phase ≡ true → is_before_invalidating (p.stage b) ≡ true → submits_at p (Some b) ≡ true
submits_is p b o s = grind arith

-- the wait that the step submitted
ranges_target : (rule : PasidRule) (c : Config) (before : List Step) (step : Step) (since : List Step) (e b count : ℕ)
    → is_open (part_after rule c before e).phase ≡ true → IsBeforeInvalidating (part_after rule c before e) b
    → (part_after rule c (before ++ step ∷ []) e).orders ≡ (part_after rule c before e).orders + suc count
    → FitsDebt (part_after rule c (before ++ step ∷ since) e) (Ranges (part_after rule c before e).orders count (part_after rule c before e).resets)
    → answered (part_after rule c (before ++ step ∷ since) e) (Ranges (part_after rule c before e).orders count (part_after rule c before e).resets) ≡ false
    → HasTarget rule c before step since e b (Ranges (part_after rule c before e).orders count (part_after rule c before e).resets)
ranges_target rule c before step since e b count o st more debt silent =
    go (awaits (world_after rule c (before ++ step ∷ since)).cookies (part_after rule c (before ++ step ∷ since) e)
    (Ranges (part_after rule c before e).orders count (part_after rule c before e).resets) (always_fronts rule c (before ++ step ∷ since) e) debt silent)
  where
    go : AwaitsTarget (part_after rule c (before ++ step ∷ since) e) (Ranges (part_after rule c before e).orders count (part_after rule c before e).resets)
        → HasTarget rule c before step since e b (Ranges (part_after rule c before e).orders count (part_after rule c before e).resets)
    go (made, d, x, h, high, z) = (
      Cookie (number c.first d),
      kept_is c.first (part_after rule c (before ++ step ∷ since) e)
          (Ranges (part_after rule c before e).orders count (part_after rule c before e).resets) (Cookie (number c.first d)) silent
          (ap (λ y. Cookie (cookie_number c.first y)) h),
      submitted ((part_after rule c before e).orders + count) d x (open_is (part_after rule c before e) o) st (omega arith)
          (omega (arith, more))
          (then_order rule c before step since e ((part_after rule c before e).orders + count) (Wait d x) (omega (arith, more)) h)
          (is_ahead rule c (before ++ step ∷ since) e ((part_after rule c before e).orders + count) d x made h high),
    )

-- the wait behind the invalidation of the binding's PASID
pasid_target : (rule : PasidRule) (c : Config) (before : List Step) (step : Step) (since : List Step) (e b k wait : ℕ)
    → is_open (part_after rule c before e).phase ≡ true → (part_after rule c before e).stage b ≡ Invalidating k wait
    → FitsDebt (part_after rule c (before ++ step ∷ since) e) (Pasid k wait (part_after rule c before e).resets false)
    → answered (part_after rule c (before ++ step ∷ since) e) (Pasid k wait (part_after rule c before e).resets false) ≡ false
    → HasTarget rule c before step since e b (Pasid k wait (part_after rule c before e).resets false)
pasid_target rule c before step since e b k wait o st debt silent =
    go (awaits (world_after rule c (before ++ step ∷ since)).cookies (part_after rule c (before ++ step ∷ since) e)
    (Pasid k wait (part_after rule c before e).resets false) (always_fronts rule c (before ++ step ∷ since) e) debt silent)
  where
    there : wait < (part_after rule c before e).orders
    there = (((always rule c before).parts e).orders.invalidating b k wait st).3

    go : AwaitsTarget (part_after rule c (before ++ step ∷ since) e) (Pasid k wait (part_after rule c before e).resets false)
        → HasTarget rule c before step since e b (Pasid k wait (part_after rule c before e).resets false)
    go (made, d, x, h, high, z) = (
      Cookie (number c.first d),
      kept_is c.first (part_after rule c (before ++ step ∷ since) e) (Pasid k wait (part_after rule c before e).resets false)
          (Cookie (number c.first d)) silent (ap (λ y. Cookie (cookie_number c.first y)) h),
      invalidating k wait d x (open_is (part_after rule c before e) o) st (sym (same_order rule c before (step ∷ since) e wait there).1 ∙ h)
          (is_ahead rule c (before ++ step ∷ since) e wait d x made h high),
    )

-- the end of the reset that the unit was in
reset_target : (rule : PasidRule) (c : Config) (before : List Step) (step : Step) (since : List Step) (e b : ℕ) (v : Owed)
    → is_open (part_after rule c before e).phase ≡ false → target_of c.first (part_after rule c (before ++ step ∷ since) e) v ≡ ResetEnd
    → answered (part_after rule c (before ++ step ∷ since) e) v ≡ false
    → (part_after rule c (before ++ step ∷ since) e).phase ≢ Open
    → (part_after rule c before e).resets ≡ (part_after rule c (before ++ step ∷ since) e).resets → HasTarget rule c before step since e b v
reset_target rule c before step since e b v o t silent closed same = (
  ResetEnd,
  kept_is c.first (part_after rule c (before ++ step ∷ since) e) v ResetEnd silent t,
  reset_end (closed_is (part_after rule c before e) o) closed same,
)

next_target : (rule : PasidRule) (c : Config) (before : List Step) (step : Step) (since : List Step) (e b : ℕ)
    → is_open (part_after rule c before e).phase ≡ false
    → FitsDebt (part_after rule c (before ++ step ∷ since) e) (NextReset (part_after rule c before e).resets)
    → answered (part_after rule c (before ++ step ∷ since) e) (NextReset (part_after rule c before e).resets) ≡ false
    → HasTarget rule c before step since e b (NextReset (part_after rule c before e).resets)
next_target rule c before step since e b o debt silent =
    let same = no_reset (part_after rule c (before ++ step ∷ since) e) (part_after rule c before e).resets debt.0 silent in
    reset_target rule c before step since e b (NextReset (part_after rule c before e).resets) o refl silent (debt.1 same) same

pasid_in_reset : (rule : PasidRule) (c : Config) (before : List Step) (step : Step) (since : List Step) (e b k wait : ℕ)
    → is_open (part_after rule c before e).phase ≡ false
    → FitsDebt (part_after rule c (before ++ step ∷ since) e) (Pasid k wait (part_after rule c before e).resets true)
    → answered (part_after rule c (before ++ step ∷ since) e) (Pasid k wait (part_after rule c before e).resets true) ≡ false
    → HasTarget rule c before step since e b (Pasid k wait (part_after rule c before e).resets true)
pasid_in_reset rule c before step since e b k wait o debt silent =
    let same = no_reset (part_after rule c (before ++ step ∷ since) e) (part_after rule c before e).resets debt.1.counted (second_fails _ _ silent) in
    reset_target rule c before step since e b (Pasid k wait (part_after rule c before e).resets true) o refl silent (debt.2 refl same) same

-- by the stage of the binding
target_by : (rule : PasidRule) (c : Config) (before : List Step) (step : Step) (since : List Step) (e b q count order cookie : ℕ)
    → part_after rule c (before ++ step ∷ []) e
    ≡ submitted_if (submits_at (part_after rule c before e) (Some b)) (part_after rule c before e) (Some b) q count order cookie
    → is_unreleased ((part_after rule c before e).stage b) ≡ true
    → ((part_after rule c before e).stage b ≡ Quiet → ⊥) → ((part_after rule c before e).stage b ≡ Lost → ⊥) → (v : Owed)
    → owed_by_stage (part_after rule c before e) count ((part_after rule c before e).stage b) ≡ v
    → FitsDebt (part_after rule c (before ++ step ∷ since) e) v → answered (part_after rule c (before ++ step ∷ since) e) v ≡ false
    → HasTarget rule c before step since e b v
target_by rule c before step since e b q count order cookie then_is u not_quiet not_lost v ow debt silent = go (was.stage b) refl (is_open was.phase) refl
  where
    was : Endpoint
    was = part_after rule c before e

    now : Endpoint
    now = part_after rule c (before ++ step ∷ since) e

    have : (z : Owed) → z ≡ v → (FitsDebt now z → answered now z ≡ false → HasTarget rule c before step since e b z) → HasTarget rule c before step since e b v
    have z h f = subst (HasTarget rule c before step since e b) h (f (subst (FitsDebt now) (sym h) debt) (ap (answered now) h ∙ silent))

    ranges : IsBeforeInvalidating was b → is_open was.phase ≡ true → owed_by_unit was count (is_open was.phase) ≡ v → HasTarget rule c before step since e b v
    ranges st o h =
        have (Ranges was.orders count was.resets) (ap (owed_by_unit was count) (sym o) ∙ h)
        (ranges_target rule c before step since e b count o st
        (orders_then was (part_after rule c (before ++ step ∷ []) e) b q count order cookie then_is (submits_is was b o (before_is was b st))))

    unit : IsBeforeInvalidating was b → (o : Bool) → is_open was.phase ≡ o → owed_by_unit was count (is_open was.phase) ≡ v
        → HasTarget rule c before step since e b v
    unit st true o h = ranges st o h
    unit st false o h =
        have (NextReset was.resets) (ap (owed_by_unit was count) (sym o) ∙ h) (next_target rule c before step since e b o)

    go : (s : Stage) → was.stage b ≡ s → (o : Bool) → is_open was.phase ≡ o → HasTarget rule c before step since e b v
    go Live st o p = unit (inl st) o p (sym (ap (owed_by_stage was count) st) ∙ ow)
    go (Stopping m) st o p = unit (inr (inl (m, st))) o p (sym (ap (owed_by_stage was count) st) ∙ ow)
    go (Draining w) st o p = unit (inr (inr (w, st))) o p (sym (ap (owed_by_stage was count) st) ∙ ow)
    go (Invalidating k w) st true p =
        have (Pasid k w was.resets false) (ap (λ z. Pasid k w was.resets (not z)) (sym p) ∙ sym (ap (owed_by_stage was count) st) ∙ ow)
        (pasid_target rule c before step since e b k w p st)
    go (Invalidating k w) st false p =
        have (Pasid k w was.resets true) (ap (λ z. Pasid k w was.resets (not z)) (sym p) ∙ sym (ap (owed_by_stage was count) st) ∙ ow)
        (pasid_in_reset rule c before step since e b k w p)
    go Quiet st o p = absurd (not_quiet st)
    go Lost st o p = absurd (not_lost st)
    go Unbound st o p = absurd (cc (sym u ∙ ap is_unreleased st))
    go Released st o p = absurd (cc (sym u ∙ ap is_unreleased st))

some_target : (rule : PasidRule) (c : Config) (before : List Step) (step : Step) (since : List Step) (m e b : ℕ) (owed : ℕ → Owed)
    → Goes (world_after rule c before) (next (world_after rule c before) step) m owed
    → FitsDebt (part_after rule c (before ++ step ∷ since) e) (owed e)
    → is_unreleased ((part_after rule c before e).stage b) ≡ true
    → (part_after rule c before e).space b ≡ (world_after rule c before).mappings.space m
    → (HasAnswered (part_after rule c before e) (part_after rule c (before ++ step ∷ []) e) (part_after rule c (before ++ step ∷ since) e) b
    ((world_after rule c before).mappings.page m) → ⊥)
    → answered (part_after rule c (before ++ step ∷ since) e) (owed e) ≡ false → HasTarget rule c before step since e b (owed e)
some_target rule c before step since m e b owed (dropped s sp none ow) debt u t not_yet silent = absurd (none e b u (t ∙ sp))
some_target rule c before step since m e b owed (unmapped s q count order nx sp r ow) debt u t not_yet silent =
    let bo = bound_is (world_after rule c before) e b s (always rule c before) u (t ∙ sp) in
    target_by rule c before step since e b q count order (cookie_of (world_after rule c before) s e)
    (then_part rule c before step e s q count order b nx bo) u (λ h. not_yet (was_done (inl h))) (λ h. not_yet (was_done (inr h))) (owed e)
    (sym (ap (λ v. v e) ow ∙ ap (owed_by (part_after rule c before e) count) bo)) debt silent

pub always_targets : (rule : PasidRule) (config : Config) (before : List Step) (step : Step) (since : List Step) (m e : ℕ) (owed : ℕ → Owed)
    → (world_after rule config before).mappings.state m ≡ Present → (world_after rule config (before ++ step ∷ [])).mappings.state m ≡ Gone owed
    → KeepsTargets rule config before step since m e (owed e)
always_targets rule config before step since m e owed present gone =
    record {
      none = (
        (λ h. answers.0 (none_answered (answered now (owed e)) (target_of config.first now (owed e)) h)),
        (λ f. ap (λ b. kept_by b (target_of config.first now (owed e))) (answers.1 f)),
      );
      some = λ b u t not_yet. some_target rule config before step since m e b owed goes debt u t not_yet
          (false_from_ne_true (answered now (owed e)) (λ h. not_yet (answers.0 h b u t)));
    }
  where
    w : World
    w = world_after rule config before

    now : Endpoint
    now = part_after rule config (before ++ step ∷ since) e

    gone_next : (next w step).mappings.state m ≡ Gone owed
    gone_next = subst (λ z. z.mappings.state m ≡ Gone owed) (after_one rule config before step) gone

    goes : Goes w (next w step) m owed
    goes = elim ((moves w step (always rule config before)).gone_back m owed gone_next) [
      | inl x ↦ absurd (cc (sym present ∙ x))
      | inr x ↦ x.1
    ]

    gone_now : (world_after rule config (before ++ step ∷ since)).mappings.state m ≡ Gone owed
    gone_now = subst (λ z. z.mappings.state m ≡ Gone owed) (sym (run_append before (step ∷ since) (opened rule config)))
        ((later since (next w step) (next_keeps w step (always rule config before))).gone_on m owed gone_next)

    debt : FitsDebt now (owed e)
    debt = always_debts rule config (before ++ step ∷ since) m e owed gone_now

    answers : (answered now (owed e) ≡ true) ↔ AllAnswered (part_after rule config before e) (part_after rule config (before ++ step ∷ []) e) now
        (w.mappings.space m) (w.mappings.page m)
    answers = unit_answers rule config before step m e owed now goes
