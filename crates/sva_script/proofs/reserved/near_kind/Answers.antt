use Rattle.sva_script.specs.Reserved.{kind_words}
use Rattle.sva_script.proofs.reserved.near_kind.Goals as goal

pub returns : goal.returns
unfolding kind_words
returns c = c.near.ensures
