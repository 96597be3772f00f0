use Rattle.sva_open_laws.proofs.AsActs.{steps_are_acts}
use Rattle.sva_open_laws.proofs.alongside.steps_are_acts.Goals as goal

pub returns : goal.returns
returns c = steps_are_acts
