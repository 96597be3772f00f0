use Rattle.std.proofs.Common.{rules}
use Rattle.sva_pasid.proofs.states.invalidating_state.Invalidating.is_waited.Goals as goal

pub returns : goal.returns
returns c = search rules
