use Rattle.sva_step.specs.declared.steps.Step.TheVariants as step
use Rattle.sva_host_state.proofs.SpaceSteps.{looked}
use Rattle.sva_host.proofs.spaces.spaces.look.Goals as goal

pub returns-clause-step : goal.returns-clause-step
returns-clause-step c = looked c.host.inside _ (step.Look c.args.frame) _ c.host.view_is c.look.ensures.step
