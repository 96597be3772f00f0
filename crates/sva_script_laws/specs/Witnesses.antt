-- A witness of a race is a scenario: of which steps, and what its report has.
use Rattle.std.specs.Prelude.{◌≡◌, ℕ, false, List, ◌++◌, flat_map, Some, Ok}
use Rattle.sva_step.specs.declared.steps.Step.{Step}
use Rattle.sva_labels.specs.Host.{first_wire, replies_of}
use Rattle.sva_grammar.specs.Grammar.{is_too_large, scenario_of}
use Rattle.sva_reports.specs.Report.{report_of}
use Rattle.sva_grammar.specs.Replies.{ended, reply_text}
use Rattle.sva_reports.specs.Counts.{counts_at}
use Rattle.sva_search.specs.Rules.{LeadsTo}
use Rattle.sva_race_texts.specs.declared.terms.choices.Choice.{Choice}
use Rattle.sva_race_texts.specs.declared.terms.races.Race.{Race}
use Rattle.sva_race.specs.Moments.{Moment, start_of}
use Rattle.sva_race.specs.Moves.{steps_before, steps_from}
use Rattle.sva_race.specs.Rules.{rules_of}
use Rattle.sva_race_texts.specs.declared.kept.Text.{Text}
use Rattle.sva_race_texts.specs.Texts.{IsText, RaceRead, race_of}
use Rattle.sva_race_reports.specs.Witnesses.{scenario_text}

-- the steps of a witness: those of the lines before the race, and those of the choices
abbrev pub steps_of : Race → List Choice → List Step
steps_of race choices = steps_before race race.before ++ steps_from race (Some (start_of race)) choices

-- a line for the answer to each step, and last the counts of the moment
abbrev pub report_to : Race → List Choice → Moment → List ℕ
report_to race choices moment =
    flat_map (λ reply. ended (reply_text reply)) (replies_of (first_wire race.config) (steps_of race choices))
    ++ ended (counts_at moment.wire)

-- Of a text that is a race, a list of choices that leads to a moment is written as a scenario. Unless that is too large, a
-- replay reads from it the race's config and just these steps; and its report has their answers, and at its end the counts
-- of the moment.
abbrev pub WitnessesReplay : Type 0
WitnessesReplay =
    (text : List ℕ) (read : RaceRead) (found : Text) (choices : List Choice) (moment : Moment)
    → race_of text ≡ Ok read
    → IsText read found
    → LeadsTo (rules_of found.race) choices moment
    → is_too_large (scenario_text found.race found.threads.items choices) ≡ false
    → (scenario_of (scenario_text found.race found.threads.items choices)
    ≡ Ok (record { config = found.race.config; steps = steps_of found.race choices }))
    × (report_of (scenario_text found.race found.threads.items choices) ≡ report_to found.race choices moment)
