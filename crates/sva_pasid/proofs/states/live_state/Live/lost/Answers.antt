use Rattle.std.proofs.Common.{refl}
use Rattle.sva_pasid.proofs.states.live_state.Live.lost.Goals as goal

pub returns : goal.returns
returns c = rw⁻¹ c.self.view_is refl
