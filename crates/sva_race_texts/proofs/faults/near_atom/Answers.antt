use Rattle.sva_race_texts.specs.Faults.{atom_words}
use Rattle.sva_race_texts.proofs.faults.near_atom.Goals as goal

pub returns : goal.returns
unfolding atom_words
returns c = c.first_near.ensures
