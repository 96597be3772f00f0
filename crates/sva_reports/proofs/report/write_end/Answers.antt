use Rattle.std.proofs.Common.{◌≡◌, rules, subst}
use Rattle.sva_streams.specs.Streams.{AppendsPrefix}
use Rattle.sva_streams.proofs.StreamLemmas.{writes_front}
use Rattle.sva_streams.proofs.StreamLemmas.{AppendsPrefix-longer}
use Rattle.sva_reports.proofs.report.write_end.Goals as goal

pub returns-in_err-flush-clause-written : goal.returns-in_err-flush-clause-written
returns-in_err-flush-clause-written g c =
    let same : c.truncate.new.self.items ≡ c.args.held.now.items = search rules in
    writes_front _ _ _ c.from_residual.result c.from_residual.ensures.0
    (AppendsPrefix-longer _ _ c.args.held.now.items _ (subst (AppendsPrefix _ _) same c.in_err-flush.ensures.written))
