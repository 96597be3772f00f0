use Rattle.std.proofs.Common.{rules}
use Rattle.sva_pasid.proofs.stages.Stage.pasid.Goals as goal

pub returns-in-Draining : goal.returns-in-Draining
returns-in-Draining c = search rules
