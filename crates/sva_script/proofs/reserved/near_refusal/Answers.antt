use Rattle.sva_script.specs.Reserved.{refusal_names}
use Rattle.sva_script.proofs.reserved.near_refusal.Goals as goal

pub returns : goal.returns
unfolding refusal_names
returns c = c.near.ensures
