use Rattle.sva_why.proofs.StuckSteps.{step_stays}
use Rattle.sva_why.proofs.laws.stuck_stays.Goals as goal

pub returns : goal.returns
returns c = step_stays
