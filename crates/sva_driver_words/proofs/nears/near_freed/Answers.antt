use Rattle.sva_driver_words.specs.Faults.{freed_words}
use Rattle.sva_driver_words.proofs.nears.near_freed.Goals as goal

pub returns : goal.returns
unfolding freed_words
returns c = c.first_near.ensures
