use Rattle.sva_open_laws.proofs.QueueSteps.{pumps_are_one}
use Rattle.sva_open_laws.proofs.alongside.pumps_are_one.Goals as goal

pub returns : goal.returns
returns c = pumps_are_one
