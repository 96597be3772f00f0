use Rattle.sva_script.specs.Reserved.{other_words}
use Rattle.sva_script.proofs.reserved.is_other_word.Goals as goal

pub returns : goal.returns
unfolding other_words
returns c = c.is_among.ensures
