use Rattle.std.proofs.Common.{ap, sym, Ok, Err, []}
use Rattle.sva_step.specs.declared.refusals.Refusal.TheVariants.{BadConfig}
use Rattle.sva_streams.specs.declared.streams.Outcome.TheVariants.{Done, Faulted}
use Rattle.sva_reports.proofs.ReportLemmas.{refusal_short}
use Rattle.sva_reports.proofs.ScriptLemmas.{fit_report, unfit_report}
use Rattle.sva_streams.proofs.StreamLemmas.{ends_as, writes_as, writes_front}
use Rattle.sva_reports.proofs.driving.report_script.Goals as goal

pub write_reply-requires-clause-short : goal.write_reply-requires-clause-short
write_reply-requires-clause-short g c = refusal_short BadConfig

pub returns-in_err-write_reply-in-Err-BadConfig-clause-report : goal.returns-in_err-write_reply-in-Err-BadConfig-clause-report
returns-in_err-write_reply-in-Err-BadConfig-clause-report g c =
    let unfit = unfit_report c.args.config c.args.steps.now (c.in-Err-BadConfig.ensures.bad.0 (ap Err c.in-Err-BadConfig.field-0-is)) in
    writes_as _ _ _ _ c.from_residual.result unfit.0
    (writes_front _ _ _ c.from_residual.result c.from_residual.ensures.0 c.in_err-write_reply-in-Err-BadConfig.ensures.written)

pub returns-in_ok-write_reply-in-Err-BadConfig : goal.returns-in_ok-write_reply-in-Err-BadConfig
returns-in_ok-write_reply-in-Err-BadConfig g c =
    let unfit = unfit_report c.args.config c.args.steps.now (c.in-Err-BadConfig.ensures.bad.0 (ap Err c.in-Err-BadConfig.field-0-is)) in
    record {
      report = writes_as _ _ _ _ (Ok Faulted) unfit.0 c.in_ok-write_reply-in-Err-BadConfig.ensures.written;
      outcome = sym unfit.1;
      told = c.in_ok-write_reply-in-Err-BadConfig.ensures.told;
    }

pub returns-in-Ok-clause-report : goal.returns-in-Ok-clause-report
returns-in-Ok-clause-report g c =
    let fit = fit_report c.args.config c.args.steps.now c.in-Ok.ensures.ok.0 in
    writes_as _ _ _ _ c.report_steps.result fit.0 (c.report_steps.ensures.report c.args.config [] c.in-Ok.ensures.ok.0 c.in-Ok.ensures.ok.1)

pub returns-in-Ok-clause-outcome : goal.returns-in-Ok-clause-outcome
returns-in-Ok-clause-outcome g c =
    let fit = fit_report c.args.config c.args.steps.now c.in-Ok.ensures.ok.0 in
    ends_as c.report_steps.result Done _ fit.1 c.report_steps.ensures.outcome
