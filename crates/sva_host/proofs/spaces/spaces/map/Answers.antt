use Rattle.sva_step.specs.declared.steps.Step.TheVariants as step
use Rattle.sva_host_state.proofs.SpaceSteps.{stepped}
use Rattle.sva_host.proofs.spaces.spaces.map.Goals as goal

pub returns : goal.returns
returns c = stepped c.host.inside _ (step.Map c.args.space c.args.page c.args.write) _ _ c.host.view_is c.map.ensures
