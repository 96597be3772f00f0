use Rattle.std.proofs.Common.{rules}
use Rattle.sva_endpoint.proofs.pasid_states.PasidStates.new.Goals as goal

pub returns : goal.returns
returns c = search rules
