use Rattle.std.proofs.Common.{rules}
use Rattle.sva_iommu.proofs.units.RemappingUnit.is_wait_done.Goals as goal

pub returns : goal.returns
returns c = search rules
