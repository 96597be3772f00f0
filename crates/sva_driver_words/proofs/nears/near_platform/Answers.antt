use Rattle.sva_driver_words.specs.Faults.{platform_words}
use Rattle.sva_driver_words.proofs.nears.near_platform.Goals as goal

pub returns : goal.returns
unfolding platform_words
returns c = c.first_near.ensures
