use Rattle.sva_driver_words.specs.Faults.{before_words}
use Rattle.sva_driver_words.proofs.nears.near_line_before.Goals as goal

pub returns : goal.returns
unfolding before_words
returns c = c.first_near.ensures
