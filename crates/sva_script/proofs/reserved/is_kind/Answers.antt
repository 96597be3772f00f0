use Rattle.sva_script.specs.Reserved.{kind_words}
use Rattle.sva_script.proofs.reserved.is_kind.Goals as goal

pub returns : goal.returns
unfolding kind_words
returns c = c.is_among.ensures
