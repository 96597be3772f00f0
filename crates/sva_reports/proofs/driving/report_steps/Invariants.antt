use Rattle.std.proofs.Common.{◌≡◌, ◌≤◌, ◌+◌, ◌*◌, List, drop, length}
use Rattle.sva_step.specs.declared.limits.Config.{Config}
use Rattle.sva_step.specs.declared.steps.Step.{Step}
use Rattle.sva_model.specs.State.PasidRule.{PerSpace}
use Rattle.sva_model.specs.Claims.{Fits}
use Rattle.sva_model.specs.Steps.{world_after}
use Rattle.sva_model.specs.Wire.{wire}
use Rattle.sva_reports.specs.Report.{steps_report}
use Rattle.sva_reports.proofs.ReportLemmas.{Reporting}
use Rattle.sva_reports.proofs.driving.report_steps.Given as goal

-- the lines of the steps so far are written or held back, by at most 1,025 calls each
abbrev pub invariant-loop-step : goal.invariant-loop-step
invariant-loop-step g l = record {
  reports : (config : Config) (taken : List Step) → Fits config → l.fn.world ≡ wire (world_after PerSpace config taken)
      → Reporting config l.world (drop l.step-index l.steps) (steps_report (world_after PerSpace config taken) l.steps) (g.W.Write.contents l.fn.writer.inner)
      (g.W.Write.contents l.writer.inner) l.held.items;
  calls : l.writer.calls + length l.held.items ≤ 1025 * l.step-index;
  failures : l.writer.failures ≡ 0;
}
