-- What was taken out is answered for, unit by unit, exactly where the look back over the list of steps says so.
use Rattle.std.proofs.Common.{◌≡◌, refl, ap, sym, ◌∙◌, ℕ, true}
use Rattle.std.specs.Prelude.{◌↔◌, Option, Some, None, ◌&&◌, ◌==◌, List, [], ◌∷◌, ◌++◌}
use Rattle.std.proofs.lemmas.Bool.{eqb-true}
use Rattle.sva_step.specs.declared.limits.Config.{Config}
use Rattle.sva_step.specs.declared.steps.Step.{Step}
use Rattle.sva_model.specs.State.{PasidRule, Owed, Endpoint, World}
use Rattle.sva_model.specs.State.MappingState.{Gone}
use Rattle.sva_model.specs.States.{is_unreleased, answered}
use Rattle.sva_model.specs.Unmappings.{bound, owed_by, cookie_of}
use Rattle.sva_model.specs.Steps.{next, world_after}
use Rattle.sva_model.specs.Claims.{HasAnswered}
use Rattle.sva_laws.specs.Waits.{AnswersByUnit}
use Rattle.sva_labels.proofs.Words.{find_passes}
use Rattle.sva_laws.proofs.Unmap.{bound_is}
use Rattle.sva_laws.proofs.Runs.{always}
use Rattle.sva_laws.proofs.Lookback.{Goes, went, after_one}
use Rattle.sva_laws.proofs.Lookback.Goes.{unmapped, dropped}
use Rattle.sva_laws.proofs.Withheld.{answered_if, answers_if, then_part}
use Rattle.sva_labels.proofs.Tests.{first_holds, second_holds}

-- every unreleased binding of the space has answered by now
abbrev pub AllAnswered : (was then now : Endpoint) (space page : ℕ) → Type 0
AllAnswered was then now space page = (b : ℕ) → is_unreleased (was.stage b) ≡ true → was.space b ≡ space → HasAnswered was then now b page

pub unit_answers : (rule : PasidRule) (c : Config) (before : List Step) (step : Step) (m e : ℕ) (owed : ℕ → Owed) (now : Endpoint)
    → Goes (world_after rule c before) (next (world_after rule c before) step) m owed
    → (answered now (owed e) ≡ true) ↔ AllAnswered ((world_after rule c before).part e) ((world_after rule c (before ++ step ∷ [])).part e) now
    ((world_after rule c before).mappings.space m) ((world_after rule c before).mappings.page m)
unit_answers rule c before step m e owed now (dropped s sp none ow) = (
  (λ h b u t. absurd (none e b u (t ∙ sp))),
  (λ f. ap (λ v. answered now (v e)) ow),
)
unit_answers rule c before step m e owed now (unmapped s q count order nx sp r ow) = (
  (λ h b u t. by h b u (t ∙ sp)),
  (λ f. back f (bound w e s) refl),
)
  where
    w : World
    w = world_after rule c before

    then : Endpoint
    then = (world_after rule c (before ++ step ∷ [])).part e

    owes : (o : Option ℕ) → bound w e s ≡ o → owed e ≡ owed_by (w.part e) count o
    owes o bo = ap (λ v. v e) ow ∙ ap (owed_by (w.part e) count) bo

    by : answered now (owed e) ≡ true → (b : ℕ) → is_unreleased ((w.part e).stage b) ≡ true → (w.part e).space b ≡ s
        → HasAnswered (w.part e) then now b (w.mappings.page m)
    by h b u t =
        let bo = bound_is w e b s (always rule c before) u t in
        answers_if (w.part e) now then b (w.mappings.page m) q count order (cookie_of w s e) r u (then_part rule c before step e s q count order b nx bo)
        (ap (answered now) (sym (owes (Some b) bo)) ∙ h)

    back : AllAnswered (w.part e) then now (w.mappings.space m) (w.mappings.page m) → (o : Option ℕ) → bound w e s ≡ o → answered now (owed e) ≡ true
    back f None bo = ap (answered now) (owes None bo)
    back f (Some b) bo =
        let x = find_passes w.bindings (λ d. is_unreleased ((w.part e).stage d) && (w.part e).space d == s) b bo in
        let u = first_holds (is_unreleased ((w.part e).stage b)) ((w.part e).space b == s) x.1 in
        let t = eqb-true ((w.part e).space b) s (second_holds (is_unreleased ((w.part e).stage b)) ((w.part e).space b == s) x.1) in
        ap (answered now) (owes (Some b) bo)
        ∙ answered_if (w.part e) now then b (w.mappings.page m) q count order (cookie_of w s e)
        (then_part rule c before step e s q count order b nx bo) (f b u (t ∙ sym sp))

pub always_by_unit : (rule : PasidRule) (config : Config) (steps : List Step) (m : ℕ) (owed : ℕ → Owed)
    → (world_after rule config steps).mappings.state m ≡ Gone owed → AnswersByUnit rule config steps m owed
always_by_unit rule config steps m owed g =
    let x = went rule config steps m owed g in
    record {
      before = x.before;
      step = x.step;
      since = x.since;
      steps_are = x.steps_are;
      present = x.present;
      gone = ap (λ w. w.mappings.state m) (after_one rule config x.before x.step) ∙ x.gone;
      answers = λ e. unit_answers rule config x.before x.step m e owed ((world_after rule config steps).part e) x.goes;
    }
