-- Lemmas on the scenarios that the grammar reads: that the world takes their steps, that a text which is too large needs no
-- more than a prefix of it, and what the test of a config means.
use Rattle.std.proofs.Common.{◌≡◌, ◌<◌, ◌≤◌, ◌+◌, ◌∙◌, ap, sym, subst, arith, ℕ, zero, suc, List, [], ◌∷◌, Bool, true, false, ◌||◌, cond, ltb, length}
use Rattle.std.proofs.Common.{take, drop, drop-cons, get_or, refl, Option, Some, None, IfSome, Result, Ok, Err}
use Rattle.std.specs.Prelude.{IfOk}
use Rattle.std.proofs.lemmas.Bool.{lt-ltb, ltb-false}
use Rattle.std.proofs.lemmas.List.{length-take, take_all}
use Rattle.sva_step.specs.declared.limits.Config.{Config}
use Rattle.sva_step.specs.declared.steps.Step.{Step}
use Rattle.sva_step.specs.declared.steps.Step.TheVariants.{Space}
use Rattle.sva_step.specs.declared.refusals.Refusal.TheVariants.{BadConfig}
use Rattle.sva_step.specs.Refusals.{refusal_text}
use Rattle.sva_model.specs.State.PasidRule.{PerSpace}
use Rattle.sva_model.specs.State.{opened}
use Rattle.sva_model.specs.Claims.{Fits}
use Rattle.sva_grammar.specs.declared.faults.Cause.TheVariants.{TooLarge}
use Rattle.sva_grammar.specs.declared.faults.LineFault.{LineFault}
use Rattle.sva_grammar.specs.Grammar.{fault, lines_of, said_lines, Script, scenario_of, script_of}
use Rattle.sva_reports.specs.Report.{ConfigsAreTested, script_report, steps_report}
use Rattle.sva_grammar.specs.Configs.{is_fit}
use Rattle.sva_grammar.specs.Replies.{ended}
use Rattle.sva_grammar.proofs.ConfigLemmas.{fit_from, fit_to, unfit_from}
use Rattle.sva_streams.specs.Streams.{Writes}
use Rattle.sva_streams.specs.declared.streams.DriveFault.{DriveFault}
use Rattle.sva_streams.specs.declared.streams.Outcome.{Outcome}
use Rattle.sva_streams.specs.declared.streams.Outcome.TheVariants.{Done, Faulted}

-- ---- The prefix of a text

too_large : (text : List ℕ) → 1048576 < length text → scenario_of text ≡ fault 0 TooLarge
unfolding scenario_of
too_large text long =
    ap (λ t. cond (t || ltb 65536 (length (lines_of text))) (fault 0 TooLarge) (script_of (length (lines_of text)) (said_lines 1 (lines_of text))))
    (lt-ltb 1048576 (length text) long)

by_size : (text : List ℕ) (long : Bool) → ltb 1048576 (length text) ≡ long → scenario_of (take 1048577 text) ≡ scenario_of text
by_size text true e =
    let long : 1048576 < length text = grind (arith, lt-ltb) in
    let front : 1048576 < length (take 1048577 text) = omega (arith, length-take 1048577 text) in
    too_large (take 1048577 text) front ∙ sym (too_large text long)
by_size text false e =
    let short : length text ≤ 1048577 = omega (arith, ltb-false 1048576 (length text) e) in
    ap scenario_of (take_all 1048577 text short)

-- more than the first 1,048,577 bytes don't matter: the text is too large anyhow
pub front_scenario : (text : List ℕ) → scenario_of (take 1048577 text) ≡ scenario_of text
front_scenario text = by_size text (ltb 1048576 (length text)) refl

-- ---- The test of a config

pub configs_are_tested : ConfigsAreTested
configs_are_tested config = (fit_to config, fit_from config)

-- ---- What is left of the steps

-- the first step that is left, and those behind it
pub next_left : (steps : List Step) (i : ℕ) → i < length steps → drop i steps ≡ get_or steps i Space ∷ drop (i + 1) steps
next_left steps i below = let next : suc i ≡ i + 1 = omega arith in drop-cons steps i Space below ∙ ap (λ n. get_or steps i Space ∷ drop n steps) next

pub none_left : (steps : List Step) (i : ℕ) → length steps ≤ i → drop i steps ≡ []
none_left [] zero h = refl
none_left [] (suc i) h = refl
none_left (step ∷ steps) zero h = absurd (omega arith)
none_left (step ∷ steps) (suc i) h = none_left steps i (omega arith)

-- the report of a config that is out of its limits, and of one that isn't
pub unfit_report : (config : Config) (steps : List Step) → (Fits config → ⊥)
    → (script_report (record { config = config; steps = steps }) ≡ ended (refusal_text BadConfig)) × (cond (is_fit config) Done Faulted ≡ Faulted)
unfolding script_report
unfit_report config steps unfit =
    let is = unfit_from config unfit in
    (ap (λ t. cond t (steps_report (opened PerSpace config) steps) (ended (refusal_text BadConfig))) is, ap (λ t. cond t Done Faulted) is)

pub fit_report : (config : Config) (steps : List Step) → Fits config
    → (script_report (record { config = config; steps = steps }) ≡ steps_report (opened PerSpace config) steps) × (cond (is_fit config) Done Faulted ≡ Done)
unfolding script_report
fit_report config steps fits =
    let is = fit_from config fits in
    (ap (λ t. cond t (steps_report (opened PerSpace config) steps) (ended (refusal_text BadConfig))) is, ap (λ t. cond t Done Faulted) is)

-- ---- What was read is what counts

pub kept_report : {A : Type 0} (say : Result Script LineFault → List ℕ) (known old new : Option (List ℕ)) (kept text : List ℕ) (result : Result A DriveFault)
    → text ≡ kept → IfSome known (λ input. kept ≡ take 1048577 input) → Writes old new (say (scenario_of text)) result
    → IfSome known (λ input. Writes old new (say (scenario_of input)) result)
kept_report say None old new kept text result e h w = tt
kept_report say (Some input) old new kept text result e h w =
    subst (λ read. Writes old new (say read) result) (ap scenario_of (e ∙ h) ∙ front_scenario input) w

pub kept_outcome : (end : Result Script LineFault → Outcome) (known : Option (List ℕ)) (kept text : List ℕ) (result : Result Outcome DriveFault)
    → text ≡ kept → IfSome known (λ input. kept ≡ take 1048577 input)
    → IfOk result (λ outcome. outcome ≡ end (scenario_of text)) → IfOk result (λ outcome. IfSome known (λ input. outcome ≡ end (scenario_of input)))
kept_outcome end known kept text (Err fault) e h o = tt
kept_outcome end None kept text (Ok outcome) e h o = tt
kept_outcome end (Some input) kept text (Ok outcome) e h o = o ∙ ap end (ap scenario_of (e ∙ h) ∙ front_scenario input)
