use Rattle.sva_race_texts.specs.Faults.{claim_words}
use Rattle.sva_race_texts.proofs.faults.near_claim.Goals as goal

pub returns : goal.returns
unfolding claim_words
returns c = c.first_near.ensures
