use Rattle.sva_open_laws.proofs.QueueSteps.{units_are_one}
use Rattle.sva_open_laws.proofs.alongside.units_are_one.Goals as goal

pub returns : goal.returns
returns c = units_are_one
