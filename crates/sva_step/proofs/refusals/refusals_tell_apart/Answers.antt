use Rattle.sva_step.proofs.RefusalLemmas.{tell_apart}
use Rattle.sva_step.proofs.refusals.refusals_tell_apart.Goals as goal

pub returns : goal.returns
returns c = tell_apart
