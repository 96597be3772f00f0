-- A witness replays: it is a scenario of the race's config and its own steps, and its report ends with the counts of the moment.
use Rattle.std.proofs.Common.{◌≡◌, ◌∙◌, ap, subst, sym, ℕ, true, List, ◌++◌, flat_map}
use Rattle.sva_step.specs.declared.limits.Config.{Config}
use Rattle.sva_model.specs.Wire.{Wire}
use Rattle.sva_labels.specs.Host.{first_wire, replies_of}
use Rattle.sva_grammar.specs.Grammar.{lines_of}
use Rattle.sva_reports.specs.Report.{report_by}
use Rattle.sva_grammar.specs.Configs.{is_fit}
use Rattle.sva_grammar.specs.Replies.{ended, reply_text}
use Rattle.sva_reports.proofs.ScriptLemmas.{configs_are_tested}
use Rattle.sva_script_reading.specs.Begins.{lines_from}
use Rattle.sva_reports.specs.Counts.{counts_at}
use Rattle.sva_script_laws.proofs.Following.{numbered}
use Rattle.sva_script_laws.proofs.Replaying.{reported}
use Rattle.sva_script_laws.proofs.Written.{Clean, lines_clean}
use Rattle.sva_race.specs.Stepping.{replays}
use Rattle.sva_race_texts.specs.declared.kept.Text.{Text}
use Rattle.sva_race_texts.specs.Texts.{IsText, RaceRead}
use Rattle.sva_race_reports.specs.Witnesses.{scenario_text}
use Rattle.sva_script_laws.specs.Witnesses.{WitnessesReplay, steps_of}
use Rattle.sva_script_laws.proofs.Configs.{IsRead, config_has, found_zero, race_is_read}
use Rattle.sva_script_laws.proofs.Moments.{steps_have}
use Rattle.sva_script_laws.proofs.ReadTexts.{script_read}
use Rattle.sva_script_laws.proofs.Scenarios.{CleanNames, scenario_writes}
use Rattle.sva_script_laws.proofs.Threads.{AreClean, reading_clean}

names_clean : (text : List ℕ) (read : RaceRead) (found : Text) → IsRead text read → IsText read found
    → CleanNames found.threads.items
names_clean text read found own kept =
    let clean = subst AreClean (sym own.reading)
    (reading_clean read.config (lines_from 1 text) own.left (numbered 1 (lines_of text) (lines_clean text))) in
    subst Clean (sym kept.threads) clean.1

pub witnesses_replay : WitnessesReplay
witnesses_replay text read found choices moment is kept leads small =
    let race = found.race in
    let own = race_is_read text read is in
    let fit : is_fit race.config ≡ true = ap is_fit kept.race.config ∙ own.fit in
    let fits = (configs_are_tested race.config).0 fit in
    let zero = ap (λ (config : Config). config.first) kept.race.config ∙ found_zero 0 (lines_from 1 text) read.config own.left own.found in
    let steps = steps_of race choices in
    let writes = scenario_writes race found.threads.items (names_clean text read found own kept) choices in
    let reads = script_read (scenario_text race found.threads.items choices) race.config steps writes.lines
    writes.clean writes.whole writes.said
    (config_has race.config fits zero) (steps_have race choices fits) small in
    let answers = flat_map (λ reply. ended (reply_text reply)) (replies_of (first_wire race.config) steps) in (
      reads,
      ap report_by reads ∙ reported race.config steps fit
          ∙ ap (λ (wire : Wire). answers ++ ended (counts_at wire)) (replays race choices moment leads),
    )
