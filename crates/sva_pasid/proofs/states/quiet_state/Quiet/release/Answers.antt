use Rattle.std.proofs.Common.{refl}
use Rattle.sva_pasid.proofs.states.quiet_state.Quiet.release.Goals as goal

pub returns : goal.returns
returns c = rw⁻¹ c.self.view_is refl
