use Rattle.std.proofs.Common.{ap, sym}
use Rattle.sva_endpoint.specs.PasidStates.{is_off}
use Rattle.sva_endpoint.proofs.pasid_states.PasidState.is_off.Goals as goal

pub returns-in-Off : goal.returns-in-Off
returns-in-Off c = ap is_off (sym c.in-Off.is)
