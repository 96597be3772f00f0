use Rattle.std.proofs.Common.{◌∙◌, subst}
use Rattle.sva_script_reports.specs.Traces.{TracesLine}
use Rattle.sva_script_reports.proofs.tracing.Tracer.take_joined.Goals as goal

pub returns-clause-traced : goal.returns-clause-traced
returns-clause-traced g c =
    subst (λ l. TracesLine g.E.Explains.explained c.args.self.now l c.take_line.new.self c.args.out.now.items c.take_line.new.out.items)
    (c.as_slice.ensures.value ∙ c.in_ok-extend_from_slice.ensures.items) c.in_ok-take_line.ensures
