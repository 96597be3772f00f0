use Rattle.sva_race_texts.specs.Possible.{refusals}
use Rattle.sva_race_texts.proofs.possible.refusal_of.Goals as goal

pub returns : goal.returns
unfolding refusals
returns c = c.refusal_among.ensures
