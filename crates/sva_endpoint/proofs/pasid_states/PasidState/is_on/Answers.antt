use Rattle.std.proofs.Common.{ap, sym}
use Rattle.sva_endpoint.specs.PasidStates.{is_on}
use Rattle.sva_endpoint.proofs.pasid_states.PasidState.is_on.Goals as goal

pub returns-in-On : goal.returns-in-On
returns-in-On c = ap is_on (sym c.in-On.is)
