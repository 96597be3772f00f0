use Rattle.std.proofs.Common.{refl}
use Rattle.sva_pasid.proofs.states.lost_state.Lost.quiet.Goals as goal

pub returns : goal.returns
returns c = rw⁻¹ c.self.view_is refl
