use Rattle.std.proofs.Common.{rules}
use Rattle.sva_pasid.proofs.states.draining_state.Draining.by_reset.Goals as goal

pub returns : goal.returns
returns c = rw⁻¹ c.self.view_is (search rules)
