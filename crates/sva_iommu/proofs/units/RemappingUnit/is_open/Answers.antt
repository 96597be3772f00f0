use Rattle.std.proofs.Common.{rules}
use Rattle.sva_iommu.proofs.units.RemappingUnit.is_open.Goals as goal

pub returns : goal.returns
returns c = search rules
