use Rattle.std.proofs.Common.{◌≡◌, ap, subst, IfSome}
use Rattle.sva_step.specs.Limits.{Fits}
use Rattle.sva_streams.proofs.EndLemmas.{ends_not_by_reading}
use Rattle.sva_scenario.proofs.StormReportLemmas.{faulted_known, played_known}
use Rattle.sva_program.proofs.storming.drive_storm.Goals as goal

pub returns-in_err-scenario-clause-report : goal.returns-in_err-scenario-clause-report
returns-in_err-scenario-clause-report g c =
    faulted_known (g.R.Read.remaining c.args.reader.now.inner) c.args.turns (g.W.Write.contents c.args.writer.now.inner)
    (g.W.Write.contents c.read_scenario.new.writer.inner) c.in_err-scenario.field-0.0 c.from_residual.result c.from_residual.ensures.1
    c.in_err-scenario.ensures.judged

pub returns-clause-report : goal.returns-clause-report
returns-clause-report g c =
    let fits = c.in_ok-scenario.ensures.fits in
    let same = subst (λ o. IfSome o (λ script. Fits script.config × (c.read_scenario.new.writer ≡ c.args.writer.now))) c.in-Some.is fits in
    played_known (g.R.Read.remaining c.args.reader.now.inner) c.args.turns (g.W.Write.contents c.args.writer.now.inner)
    (g.W.Write.contents c.read_scenario.new.writer.inner) (g.W.Write.contents c.report_audit.new.writer.inner) c.in_ok-scenario.field-0 c.in-Some.scenario
    c.in_ok-found.found c.report_audit.result c.in-Some.is c.in_ok-scenario.ensures.judged (ap (λ told. g.W.Write.contents told.inner) same.1)
    c.in_ok-found.ensures.found c.report_audit.ensures.report c.report_audit.ensures.outcome
    (ends_not_by_reading c.read_scenario.new.writer c.report_audit.new.writer c.report_audit.result c.report_audit.ensures.told)
    (λ wrong. ap (λ told. g.W.Write.contents told.inner) (c.report_audit.ensures.memory wrong))
