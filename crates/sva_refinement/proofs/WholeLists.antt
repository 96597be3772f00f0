-- Whole lists of steps by labels, from what each step does: a host that keeps what it keeps before the first step gives the answers
-- of the definitions, and keeps at the end what the last world is seen as.
use Rattle.std.proofs.Common.{◌≡◌, refl, ap, ap₂, sym, ◌∙◌, ◌+◌, arith}
use Rattle.std.specs.Prelude.{List, [], ◌∷◌, ◌++◌}
use Rattle.sva_step.specs.declared.limits.Config.{Config}
use Rattle.sva_step.specs.declared.steps.Step.{Step}
use Rattle.sva_model.specs.Words.{select}
use Rattle.sva_model.specs.State.{World, opened}
use Rattle.sva_model.specs.State.PasidRule.{PerSpace}
use Rattle.sva_model.specs.Steps.{reply, replies, next, run, world_after}
use Rattle.sva_model.specs.Claims.{Fits}
use Rattle.sva_model.specs.Wire.{wire}
use Rattle.sva_laws.proofs.Lookback.{after_one}
use Rattle.sva_refinement.specs.Refinement.{LabelsAreNames, RunsByLabels}
use Rattle.sva_labels.specs.Host.{first_wire, reply_of, next_of, replies_of, run_of}

-- the opened world, as a host sees it
pub opened_is : (config : Config) → wire (opened PerSpace config) ≡ first_wire config
unfolding select
opened_is config =
    let none : config.first + 0 ≡ config.first = omega arith in
    λ i. record (first_wire config) { next_space = none i; next_binding = none i; next_message = none i; next_cookie = none i }

-- a list of steps, from the world that another leads to
run_by_labels :
    LabelsAreNames → (config : Config) → Fits config → (ss before : List Step) (w : World) → w ≡ world_after PerSpace config before
    → (replies w ss ≡ replies_of (wire w) ss) × (wire (run w ss) ≡ run_of (wire w) ss)
unfolding replies replies_of
run_by_labels law config fits [] before w e = (refl, refl)
run_by_labels law config fits (s ∷ ss) before w e =
    let here = law config before s fits in
    let answered = ap (λ v. reply v s) e ∙ here.0 ∙ sym (ap (λ v. reply_of (wire v) s) e) in
    let left = ap (λ v. wire (next v s)) e ∙ here.1 ∙ sym (ap (λ v. next_of (wire v) s) e) in
    let rest = run_by_labels law config fits ss (before ++ s ∷ []) (next w s) (ap (λ v. next v s) e ∙ sym (after_one PerSpace config before s)) in
    (ap₂ (λ r rs. r ∷ rs) answered (rest.0 ∙ ap (λ v. replies_of v ss) left), rest.1 ∙ ap (λ v. run_of v ss) left)

pub runs_by_labels : LabelsAreNames → RunsByLabels
runs_by_labels law config steps fits =
    let first = opened_is config in
    let r = run_by_labels law config fits steps [] (opened PerSpace config) refl in
    (r.0 ∙ ap (λ v. replies_of v steps) first, r.1 ∙ ap (λ v. run_of v steps) first)
