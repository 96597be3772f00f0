use Rattle.sva_script.specs.Reserved.{first_words}
use Rattle.sva_script.proofs.reserved.is_first_word.Goals as goal

pub returns : goal.returns
unfolding first_words
returns c = c.is_among.ensures
