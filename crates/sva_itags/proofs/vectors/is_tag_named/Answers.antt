use Rattle.std.proofs.Common.{arith}
use Rattle.std.proofs.lemmas.Grind.{common_steps}
use Rattle.sva_itags.proofs.vectors.is_tag_named.Goals as goal

pub returns : goal.returns
returns c = grind (arith, common_steps)
