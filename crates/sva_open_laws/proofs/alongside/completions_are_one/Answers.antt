use Rattle.sva_open_laws.proofs.FreedItags.{completions_are_one}
use Rattle.sva_open_laws.proofs.alongside.completions_are_one.Goals as goal

pub returns : goal.returns
returns c = completions_are_one
