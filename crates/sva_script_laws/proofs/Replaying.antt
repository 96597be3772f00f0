-- The report of a script's scenario, by the script's lines, and what trace and test have of it.
use Rattle.std.proofs.Common.{◌≡◌, ◌∙◌, ap, sym, arith, ℕ, ◌+◌, true, false, cond, List, [], ◌++◌, length, map}
use Rattle.std.specs.Prelude.{Ok, Err, count_by, flat_map}
use Rattle.sva_step.specs.declared.limits.Config.{Config}
use Rattle.sva_step.specs.declared.refusals.Refusal.TheVariants.{BadConfig}
use Rattle.sva_step.specs.declared.steps.Step.{Step}
use Rattle.sva_step.specs.Refusals.{refusal_text}
use Rattle.sva_model.specs.State.PasidRule.{PerSpace}
use Rattle.sva_model.specs.Claims.{Fits}
use Rattle.sva_model.specs.Steps.{counts, world_after}
use Rattle.sva_model.specs.Wire.{wire}
use Rattle.sva_labels.specs.Finding.{is_free}
use Rattle.sva_labels.specs.Host.{first_wire, run_of}
use Rattle.sva_refinement.proofs.Said.{every_list}
use Rattle.sva_address_spaces.specs.Steps.{is_mapped_place, is_withheld_place}
use Rattle.sva_core.proofs.FrameCounts.{free-counted, mapped-counted, withheld-counted}
use Rattle.sva_grammar.specs.declared.faults.Cause.TheVariants.{TooLarge}
use Rattle.sva_grammar.specs.Grammar.{fault, lines_of, said_lines, scenario_of, script_of}
use Rattle.sva_reports.specs.Report.{counts_text, report_by, report_of, script_report, steps_report}
use Rattle.sva_grammar.specs.Configs.{is_fit}
use Rattle.sva_grammar.specs.Replies.{ended, reply_text}
use Rattle.sva_snapshot.specs.Explaining.{Explaining}
use Rattle.sva_reports.proofs.ScriptLemmas.{configs_are_tested, fit_report}
use Rattle.sva_script_reading.specs.Said.{Said, bad, well}
use Rattle.sva_script_reading.specs.Begins.{Line, config_alone, config_in, first_config, lines_from, said_by, too_large}
use Rattle.sva_reports.specs.Counts.{counts_at}
use Rattle.sva_script_reports.specs.Scripts.{or_wrong, start, test_from, test_of, tested, verdict_text}
use Rattle.sva_script_laws.specs.Replays.{ScriptsReplay, answers_from}
use Rattle.sva_script_laws.specs.Traces.{TracesAnswer, said_texts}
use Rattle.sva_script_laws.specs.Tests.{Expectation, NoneIsSkipped, TestsCompare, TestsPass, expectations_by, expectations_of, judged_by}
use Rattle.sva_script_laws.proofs.Beginning.{Begins, Runs, begins, runs}
use Rattle.sva_script_laws.proofs.Following.{numbered, report_from}
use Rattle.sva_script_laws.proofs.Judging.{all_met, met_all}
use Rattle.sva_script_laws.proofs.Written.{lines_clean, lines_written}

-- ---- The report

-- what explains nothing: what is said of reports alone holds whatever explains
pub unexplained : Explaining
unexplained wire step reply = []

counted : (config : Config) (steps : List Step) → Fits config
    → counts_text (counts (world_after PerSpace config steps)) ≡ counts_at (run_of (first_wire config) steps)
counted config steps fits =
    let w = world_after PerSpace config steps in
    let runs = every_list config steps fits in
    let same : counts w ≡ record {
      free = count_by is_free (wire w).places;
      mapped = count_by is_mapped_place (wire w).places;
      withheld = count_by is_withheld_place (wire w).places;
    } = λ i. record { free = sym (free-counted w) i; mapped = sym (mapped-counted w) i; withheld = sym (withheld-counted w) i } in
    ap counts_text same ∙ ap counts_at runs.1

pub reported : (config : Config) (steps : List Step) → is_fit config ≡ true
    → script_report (record { config = config; steps = steps }) ≡ report_from (first_wire config) steps
unfolding steps_report
reported config steps fit =
    let fits = (configs_are_tested config).0 fit in
    let runs = every_list config steps fits in
    (fit_report config steps fits).0
    ∙ (λ i. flat_map (λ reply. ended (reply_text reply)) (runs.0 i) ++ ended (counted config steps fits i))

pub lines_are : (explained : Explaining) (config : Config) (lines : List Line) (plain : List ℕ) (begins : Begins explained config lines [] plain)
    → lines_of plain ≡ begins.more
lines_are explained config lines plain begins = ap lines_of begins.whole ∙ lines_written begins.more begins.clean

pub read_whole : (explained : Explaining) (config : Config) (lines : List Line) (plain : List ℕ) (begins : Begins explained config lines [] plain)
    → scenario_of plain ≡ Ok (record { config = config; steps = begins.steps })
unfolding scenario_of
read_whole explained config lines plain begins =
    ap (λ t. cond t (fault 0 TooLarge) (script_of (length (lines_of plain)) (said_lines 1 (lines_of plain)))) begins.small
    ∙ ap (λ lines. script_of (length lines) (said_lines 1 lines)) (lines_are explained config lines plain begins)
    ∙ begins.read 1 (length begins.more)

-- what the lines of a script that has a scenario say
pub begins_all : (explained : Explaining) (text plain : List ℕ) (run : Runs text plain) → Begins explained run.config (lines_from 1 text) [] plain
begins_all explained text plain run =
    begins explained 0 (lines_from 1 text) run.config run.left (numbered 1 (lines_of text) (lines_clean text)) run.fit run.right run.found [] plain run.writes

report_is : (explained : Explaining) (text plain : List ℕ) (run : Runs text plain) → report_of plain ≡ answers_from (start run.config) (lines_from 1 text)
report_is explained text plain run =
    let all = begins_all explained text plain run in
    ap report_by (read_whole explained run.config (lines_from 1 text) plain all) ∙ reported run.config all.steps run.fit ∙ all.answers

pub scripts_replay : ScriptsReplay
scripts_replay text plain is =
    let run = runs text plain is in
    let tell : Config → Said = λ config. well (answers_from (start config) (lines_from 1 text)) in
    report_is unexplained text plain run
    ∙ sym (ap (λ begin. (said_by tell begin).text) run.begin
    ∙ ap (λ t. (cond t (tell run.config) (bad (ended (refusal_text BadConfig)))).text) run.fit)

-- ---- A trace

pub traces_answer : TracesAnswer
traces_answer explained text plain is =
    let run = runs text plain is in
    let all = begins_all explained text plain run in (
      all.number,
      all.first,
      all.rows,
      all.counts,
      all.numbers,
      ap (said_texts 1) (lines_are explained run.config (lines_from 1 text) plain all) ∙ all.said 1,
      λ style. all.traced style 0,
      report_is explained text plain run ∙ all.told,
    )

-- ---- A test

-- a script in which nothing is wrong has its config also where only that is looked for
config_alone_is : (text plain : List ℕ) (run : Runs text plain) → first_config text ≡ Ok run.config
config_alone_is text plain run =
    ap (λ t. cond t (Err too_large) (config_alone (config_in 0 (lines_from 1 text)))) run.small ∙ ap config_alone run.found

test_is : (explained : Explaining) (text plain : List ℕ) (run : Runs text plain) → test_of explained text ≡ test_from explained 0 false
    (start run.config) (lines_from 1 text)
test_is explained text plain run =
    let whole : Config → Said = λ config. test_from explained 0 false (start config) (lines_from 1 text) in
    ap (tested explained text) (config_alone_is text plain run)
    ∙ ap (λ begin. or_wrong begin (said_by whole (Ok run.config))) run.begin
    ∙ ap (λ t. cond t (whole run.config) (bad (ended (refusal_text BadConfig)))) run.fit

pub tests_compare : TestsCompare
tests_compare explained text plain is =
    let run = runs text plain is in
    let all = begins_all explained text plain run in
    test_is explained text plain run ∙ all.tested
    ∙ (λ i. judged_by (lines_of (sym (report_is explained text plain run) i)) 0 (ap (expectations_by explained text) (sym run.begin) i))

pub tests_pass : TestsPass
tests_pass explained text plain is =
    let report = lines_of (report_of plain) in
    let told = tests_compare explained text plain is in
    let none : 0 + length (expectations_of explained text) ≡ length (expectations_of explained text) = omega arith in (
      λ passes. met_all report 0 (expectations_of explained text) (verdict_text (length (expectations_of explained text))) (sym told ∙ passes),
      λ met. told ∙ all_met report 0 (expectations_of explained text) met ∙ ap (λ n. well (verdict_text n)) none,
    )

pub none_is_skipped : NoneIsSkipped
none_is_skipped explained text plain is =
    let run = runs text plain is in
    ap (λ begin. map (λ (it : Expectation). it.line) (expectations_by explained text begin)) run.begin ∙ (begins_all explained text plain run).none_skipped
