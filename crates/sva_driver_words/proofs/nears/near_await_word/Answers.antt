use Rattle.sva_driver_words.specs.Faults.{awaited_words}
use Rattle.sva_driver_words.proofs.nears.near_await_word.Goals as goal

pub returns : goal.returns
unfolding awaited_words
returns c = c.first_near.ensures
