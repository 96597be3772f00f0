use Rattle.std.proofs.Common.{rules}
use Rattle.sva_pasid.proofs.stages.Stage.binding.Goals as goal

pub returns-in-Lost : goal.returns-in-Lost
returns-in-Lost c = search rules
