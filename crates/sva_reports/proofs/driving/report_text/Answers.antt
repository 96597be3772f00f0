use Rattle.std.proofs.Common.{◌∙◌, ap, arith, length, refl}
use Rattle.sva_grammar.specs.Grammar.{scenario_of}
use Rattle.sva_grammar.proofs.SizeLemmas.{read_few}
use Rattle.sva_reports.specs.Report.{outcome_by, report_by}
use Rattle.sva_reports.proofs.HandedLemmas.{handed_fault, handed_none, handed_outcome, handed_script}
use Rattle.sva_streams.proofs.StreamLemmas.{writes_front}
use Rattle.sva_reports.proofs.driving.report_text.Goals as goal

pub returns-in_err-scenario-clause-report : goal.returns-in_err-scenario-clause-report
returns-in_err-scenario-clause-report g c =
    writes_front _ _ _ c.from_residual.result c.from_residual.ensures.0
    (handed_fault report_by (λ line. refl) (scenario_of c.args.text.now) _ _ c.in_err-scenario.field-0.0
    c.in_err-scenario.ensures.handed)

pub returns-in_default : goal.returns-in_default
returns-in_default g c =
    let read = scenario_of c.args.text.now in
    record {
      report = handed_none report_by (λ line. refl) read _ _ _ c.in_default.is c.in_ok-scenario.ensures.handed;
      outcome = handed_outcome outcome_by (λ line. refl) read _ _ _ c.in_default.is c.in_ok-scenario.ensures.handed;
      told = c.in_ok-scenario.ensures.told;
    }

pub report_script-requires-clause-few : goal.report_script-requires-clause-few
report_script-requires-clause-few g c =
    let read = handed_script (scenario_of c.args.text.now) c.in-Some.scenario _ _ c.in_ok-scenario.field-0 c.in-Some.is
    c.in_ok-scenario.ensures.handed in
    let few = read_few c.args.text.now c.in-Some.scenario read in
    let same = c.as_slice.ensures.value ∙ ap (λ s. s.steps) c.scenario.view_is in
    omega (arith, few, ap length same)
