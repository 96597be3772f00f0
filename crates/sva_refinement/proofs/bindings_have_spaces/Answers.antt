use Rattle.sva_refinement.proofs.BoundSpaces.{always_have_spaces}
use Rattle.sva_refinement.proofs.bindings_have_spaces.Goals as goal

pub returns : goal.returns
returns c = always_have_spaces
