use Rattle.std.proofs.Common.{sym, subst}
use Rattle.sva_step.specs.declared.steps.Step.{Step}
use Rattle.sva_host_state.specs.Steps.{ByLabels}
use Rattle.sva_host.proofs.host_steps.apply_at_host.Goals as goal

pub returns-in-Quit-clause-step : goal.returns-in-Quit-clause-step
returns-in-Quit-clause-step c = subst (λ (s : Step). ByLabels c.args.state.now s c.quit.result c.quit.new.host) (sym c.in-Quit.is) c.quit.ensures
