use Rattle.sva_script.specs.Reserved.{answer_words}
use Rattle.sva_script.proofs.reserved.near_answer_word.Goals as goal

pub returns : goal.returns
unfolding answer_words
returns c = c.near.ensures
