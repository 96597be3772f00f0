use Rattle.sva_driver_words.specs.Faults.{descriptor_words}
use Rattle.sva_driver_words.proofs.nears.near_descriptor.Goals as goal

pub returns : goal.returns
unfolding descriptor_words
returns c = c.first_near.ensures
