use Rattle.sva_open_laws.proofs.Covered.{scopes_are_one}
use Rattle.sva_open_laws.proofs.alongside.scopes_are_one.Goals as goal

pub returns : goal.returns
returns c = scopes_are_one
