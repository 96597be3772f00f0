use Rattle.sva_open_laws.proofs.FreedItags.{resets_are_one}
use Rattle.sva_open_laws.proofs.alongside.resets_are_one.Goals as goal

pub returns : goal.returns
returns c = resets_are_one
