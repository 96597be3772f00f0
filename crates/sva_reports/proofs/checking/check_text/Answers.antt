use Rattle.std.proofs.Common.{◌≡◌, ◌∙◌, ap, sym, subst, length, refl, IfSome}
use Rattle.sva_grammar.specs.Grammar.{scenario_of}
use Rattle.sva_reports.specs.Report.{check_by, check_outcome_by, steps_text}
use Rattle.sva_grammar.specs.Replies.{ended}
use Rattle.sva_streams.specs.Streams.{AppendsPrefix}
use Rattle.sva_reports.proofs.HandedLemmas.{handed_fault, handed_none, handed_outcome, handed_script}
use Rattle.sva_streams.proofs.StreamLemmas.{writes_as, writes_front}
use Rattle.sva_reports.proofs.checking.check_text.Goals as goal

pub returns-in_err-scenario-clause-report : goal.returns-in_err-scenario-clause-report
returns-in_err-scenario-clause-report g c =
    writes_front _ _ _ c.from_residual.result c.from_residual.ensures.0
    (handed_fault check_by (λ line. refl) (scenario_of c.args.text.now) _ _ c.in_err-scenario.field-0.0
    c.in_err-scenario.ensures.handed)

pub returns-in_default : goal.returns-in_default
returns-in_default g c =
    let read = scenario_of c.args.text.now in
    record {
      report = handed_none check_by (λ line. refl) read _ _ _ c.in_default.is c.in_ok-scenario.ensures.handed;
      outcome = handed_outcome check_outcome_by (λ line. refl) read _ _ _ c.in_default.is c.in_ok-scenario.ensures.handed;
      told = c.in_ok-scenario.ensures.told;
    }

pub returns-in_err-write_steps-clause-report : goal.returns-in_err-write_steps-clause-report
returns-in_err-write_steps-clause-report g c =
    let unwritten = c.in_ok-scenario.ensures.unwritten in
    let same = subst (λ o. IfSome o (λ _. c.scenario_or_fault.new.writer ≡ c.args.writer.now)) c.in-Some.is unwritten in
    let read = handed_script (scenario_of c.args.text.now) c.in-Some.scenario _ _ c.in_ok-scenario.field-0 c.in-Some.is
    c.in_ok-scenario.ensures.handed in
    let count = ap length c.as_slice.ensures.value ∙ ap (λ s. length s.steps) c.scenario.view_is in
    let written = subst (λ seen. AppendsPrefix seen (g.W.Write.contents c.write_steps.new.writer.inner)
    (ended (steps_text (length c.as_slice.result.now)))) (ap (λ told. g.W.Write.contents told.inner) same)
    c.in_err-write_steps.ensures.written in
    writes_as _ _ _ _ c.from_residual-in_err-write_steps.result (ap check_by read ∙ ap (λ n. ended (steps_text n)) (sym count))
    (writes_front _ _ _ c.from_residual-in_err-write_steps.result c.from_residual-in_err-write_steps.ensures.0 written)
