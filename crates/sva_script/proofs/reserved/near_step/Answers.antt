use Rattle.sva_script.specs.Reserved.{step_names}
use Rattle.sva_script.proofs.reserved.near_step.Goals as goal

pub returns : goal.returns
unfolding step_names
returns c = c.near.ensures
