use Rattle.std.proofs.Common.{rules}
use Rattle.sva_pasid.proofs.states.invalidating_state.Invalidating.cookie.Goals as goal

pub returns : goal.returns
returns c = search rules
