use Rattle.sva_driver_words.specs.Faults.{act_words}
use Rattle.sva_driver_words.proofs.nears.near_act.Goals as goal

pub returns : goal.returns
unfolding act_words
returns c = c.first_near.ensures
