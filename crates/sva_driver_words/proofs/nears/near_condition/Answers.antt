use Rattle.sva_driver_words.specs.Faults.{condition_words}
use Rattle.sva_driver_words.proofs.nears.near_condition.Goals as goal

pub returns : goal.returns
unfolding condition_words
returns c = c.first_near.ensures
