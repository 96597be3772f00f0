use Rattle.sva_refinement.proofs.TalliedWorlds.{always_tallied}
use Rattle.sva_refinement.proofs.always_tallied.Goals as goal

pub returns : goal.returns
returns c = λ rule config steps s fits. always_tallied rule config steps s
