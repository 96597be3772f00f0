use Rattle.sva_race_texts.specs.Faults.{line_words}
use Rattle.sva_race_texts.proofs.faults.near_line.Goals as goal

pub returns : goal.returns
unfolding line_words
returns c = c.first_near.ensures
