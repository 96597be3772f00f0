use Rattle.std.proofs.Common.{rules}
use Rattle.sva_host_state.proofs.unmapping.target_of.Goals as goal

pub returns-in-Some-Draining : goal.returns-in-Some-Draining
returns-in-Some-Draining c = search rules
