use Rattle.std.proofs.Common.{ap, sym}
use Rattle.sva_endpoint.specs.PasidStates.{is_stopping}
use Rattle.sva_endpoint.proofs.pasid_states.PasidState.is_stopping.Goals as goal

pub returns-in-Stopping : goal.returns-in-Stopping
returns-in-Stopping c = ap is_stopping (sym c.in-Stopping.is)
