use Rattle.sva_script.specs.Reserved.{refusal_names}
use Rattle.sva_script.proofs.reserved.is_refusal.Goals as goal

pub returns : goal.returns
unfolding refusal_names
returns c = c.is_among.ensures
