use Rattle.sva_driver_words.specs.Faults.{behind_words}
use Rattle.sva_driver_words.proofs.nears.near_line_behind.Goals as goal

pub returns : goal.returns
unfolding behind_words
returns c = c.first_near.ensures
