use Rattle.std.proofs.Common.{◌≡◌, ◌∙◌, ap, arith, length, List, subst, Err, Ok}
use Rattle.sva_step.specs.declared.steps.Step.{Step}
use Rattle.sva_step.specs.declared.refusals.Refusal.TheVariants.{OutOfMemory}
use Rattle.sva_model.specs.State.PasidRule.{PerSpace}
use Rattle.sva_model.specs.Steps.{world_after}
use Rattle.sva_reports.specs.Report.{steps_report}
use Rattle.sva_reports.proofs.ReportLemmas.{not_so, Reporting, reporting_start, reporting_step, reporting_cut, reporting_stop, reporting_end}
use Rattle.sva_reports.proofs.ScriptLemmas.{next_left, none_left}
use Rattle.sva_streams.proofs.StreamLemmas.{writes_front}
use Rattle.sva_reports.proofs.driving.report_steps.Goals as goal

pub loop-step-init : goal.loop-step-init
loop-step-init g c = record {
  reports = λ config taken fits seen.
      reporting_start config taken c.args.steps.now c.args.world.now (g.W.Write.contents c.args.writer.now.inner)
      c.args.held.now.items c.requires.nothing fits seen;
  calls = omega (arith, ap length c.requires.nothing);
  failures = c.requires.new.1;
}

pub loop-step-preserved : goal.loop-step-preserved
loop-step-preserved g c = record {
  reports = λ config taken fits seen.
      let left = next_left c.args.steps.now c.loop-step.step-index c.loop-step-test.true in
      let whole = steps_report (world_after PerSpace config taken) c.args.steps.now in
      let so_far = subst (λ (l : List Step). Reporting config c.loop-step.world l whole (g.W.Write.contents c.args.writer.now.inner)
      (g.W.Write.contents c.loop-step.writer.inner) c.loop-step.held.items) left (c.loop-step.invariant.reports config taken fits seen) in
      reporting_step config c.loop-step.world c.take_step-reply.new.world _ _ _ _ _ _ _ _ c.take_step-reply.result so_far
      (not_so c.lacks_memory.result (c.take_step-reply.result ≡ Err OutOfMemory) c.lacks_memory.ensures.1 c.if-lacks_memory.false)
      c.take_step-reply.ensures.step
      c.in_ok-hold_reply.ensures.held;
  calls = omega (arith, c.in_ok-hold_reply.ensures.calls, c.loop-step.invariant.calls);
  failures = c.in_ok-hold_reply.ensures.told ∙ c.loop-step.invariant.failures;
}

pub returns-in_err-flush-clause-report : goal.returns-in_err-flush-clause-report
returns-in_err-flush-clause-report g c = λ config taken fits seen.
    writes_front _ _ _ c.from_residual.result c.from_residual.ensures.0
    (reporting_stop {A = Unit {0}} config c.loop-step.world _ _ _ _ _ c.loop-step.held.items (Err c.in_err-flush.field-0.0)
    (c.loop-step.invariant.reports config taken fits seen) c.in_err-flush.ensures.written)

pub returns-in_err-hold_reply-clause-report : goal.returns-in_err-hold_reply-clause-report
returns-in_err-hold_reply-clause-report g c = λ config taken fits seen.
    let left = next_left c.args.steps.now c.loop-step.step-index c.loop-step-test.true in
    let whole = steps_report (world_after PerSpace config taken) c.args.steps.now in
    let so_far = subst (λ (l : List Step). Reporting config c.loop-step.world l whole (g.W.Write.contents c.args.writer.now.inner)
    (g.W.Write.contents c.loop-step.writer.inner) c.loop-step.held.items) left (c.loop-step.invariant.reports config taken fits seen) in
    writes_front _ _ _ c.from_residual-in_err-hold_reply.result c.from_residual-in_err-hold_reply.ensures.0
    (reporting_cut config c.loop-step.world c.take_step-reply.new.world _ _ _ _ _ _ c.loop-step.held.items c.take_step-reply.result so_far
    (not_so c.lacks_memory.result (c.take_step-reply.result ≡ Err OutOfMemory) c.lacks_memory.ensures.1 c.if-lacks_memory.false)
    c.take_step-reply.ensures.step
    c.in_err-hold_reply.ensures.held)

pub returns-in_err-write_end-clause-report : goal.returns-in_err-write_end-clause-report
returns-in_err-write_end-clause-report g c = λ config taken fits seen.
    let none = none_left c.args.steps.now c.loop-step.step-index c.loop-step-test.false in
    let whole = steps_report (world_after PerSpace config taken) c.args.steps.now in
    let so_far = subst (λ (l : List Step). Reporting config c.loop-step.world l whole (g.W.Write.contents c.args.writer.now.inner)
    (g.W.Write.contents c.loop-step.writer.inner) c.loop-step.held.items) none (c.loop-step.invariant.reports config taken fits seen) in
    writes_front _ _ _ c.from_residual-in_err-write_end.result c.from_residual-in_err-write_end.ensures.0
    (reporting_end {A = Unit {0}} config c.loop-step.world whole _ _ _ c.loop-step.held.items
    (record { free = c.counts.result.free; mapped = c.counts.result.mapped; withheld = c.counts.result.withheld })
    (Err c.in_err-write_end.field-0.0) so_far c.counts.ensures.counts c.in_err-write_end.ensures.written)

pub returns-clause-report : goal.returns-clause-report
returns-clause-report g c = λ config taken fits seen.
    let none = none_left c.args.steps.now c.loop-step.step-index c.loop-step-test.false in
    let whole = steps_report (world_after PerSpace config taken) c.args.steps.now in
    let so_far = subst (λ (l : List Step). Reporting config c.loop-step.world l whole (g.W.Write.contents c.args.writer.now.inner)
    (g.W.Write.contents c.loop-step.writer.inner) c.loop-step.held.items) none (c.loop-step.invariant.reports config taken fits seen) in
    reporting_end {A = Unit {0}} config c.loop-step.world whole _ _ _ c.loop-step.held.items
    (record { free = c.counts.result.free; mapped = c.counts.result.mapped; withheld = c.counts.result.withheld }) (Ok tt)
    so_far c.counts.ensures.counts c.in_ok-write_end.ensures.written
