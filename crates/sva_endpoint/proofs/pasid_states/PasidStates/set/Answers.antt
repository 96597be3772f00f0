use Rattle.std.proofs.Common.{arith}
use Rattle.std.proofs.lemmas.Grind.{common_steps}
use Rattle.sva_endpoint.proofs.pasid_states.PasidStates.set.Goals as goal

pub returns-then-place-len : goal.returns-then-place-len
returns-then-place-len c = grind (arith, common_steps)
