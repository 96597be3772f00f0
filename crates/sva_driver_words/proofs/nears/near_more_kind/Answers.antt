use Rattle.sva_driver_words.specs.Faults.{more_kind_words}
use Rattle.sva_driver_words.proofs.nears.near_more_kind.Goals as goal

pub returns : goal.returns
unfolding more_kind_words
returns c = c.first_near.ensures
