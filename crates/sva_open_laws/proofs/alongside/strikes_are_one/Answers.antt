use Rattle.sva_open_laws.proofs.StrikeActs.{strikes_are_one}
use Rattle.sva_open_laws.proofs.alongside.strikes_are_one.Goals as goal

pub returns : goal.returns
returns c = strikes_are_one
