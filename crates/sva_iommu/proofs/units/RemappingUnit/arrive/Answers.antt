use Rattle.std.proofs.Common.{arith}
use Rattle.std.proofs.lemmas.Grind.{common_steps}
use Rattle.sva_iommu.proofs.units.RemappingUnit.arrive.Goals as goal

pub returns : goal.returns
returns c = grind (arith, common_steps)
