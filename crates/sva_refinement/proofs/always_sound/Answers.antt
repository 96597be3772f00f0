use Rattle.sva_refinement.proofs.Sounds.{always_sound}
use Rattle.sva_refinement.proofs.always_sound.Goals as goal

pub returns : goal.returns
returns c = always_sound
