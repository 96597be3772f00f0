use Rattle.std.proofs.Common.{rules}
use Rattle.sva_itags.proofs.itags.Itags.clear.Goals as goal

pub returns : goal.returns
returns c = search rules
