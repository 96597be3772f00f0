use Rattle.sva_script.specs.Reserved.{answer_words}
use Rattle.sva_script.proofs.reserved.is_of_answers.Goals as goal

pub returns : goal.returns
unfolding answer_words
returns c = c.is_among.ensures
