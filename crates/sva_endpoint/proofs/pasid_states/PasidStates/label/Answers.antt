use Rattle.std.proofs.Common.{refl}
use Rattle.sva_endpoint.proofs.pasid_states.PasidStates.label.Goals as goal

pub returns : goal.returns
returns c = refl
