use Rattle.std.proofs.Common.{ap, sym, Ok}
use Rattle.sva_streams.specs.declared.streams.Outcome.TheVariants.{Done}
use Rattle.sva_scenario.specs.StormReports.{audit_outcome, audit_text}
use Rattle.sva_streams.proofs.StreamLemmas.{writes_as, writes_front}
use Rattle.sva_scenario.proofs.storm_reports.report_audit.Goals as goal

pub returns-in_err-write_audit-in-Some-clause-report : goal.returns-in_err-write_audit-in-Some-clause-report
returns-in_err-write_audit-in-Some-clause-report g c =
    writes_as _ _ _ _ c.from_residual.result (ap audit_text c.in-Some.is)
    (writes_front _ _ _ c.from_residual.result c.from_residual.ensures.0 c.in_err-write_audit-in-Some.ensures.written)

pub returns-in-Some-clause-report : goal.returns-in-Some-clause-report
returns-in-Some-clause-report g c = writes_as _ _ _ _ (Ok Done) (ap audit_text c.in-Some.is) c.in_ok-write_audit-in-Some.ensures.written

pub returns-in-Some-clause-outcome : goal.returns-in-Some-clause-outcome
returns-in-Some-clause-outcome g c = ap audit_outcome (sym c.in-Some.is)
