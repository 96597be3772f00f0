use Rattle.std.proofs.Common.{rules}
use Rattle.sva_iommu.proofs.units.RemappingUnit.submit_drain.Goals as goal

pub returns : goal.returns
returns c = search rules
