use Rattle.sva_driver_words.specs.Faults.{setting_words}
use Rattle.sva_driver_words.proofs.nears.near_setting.Goals as goal

pub returns : goal.returns
unfolding setting_words
returns c = c.first_near.ensures
