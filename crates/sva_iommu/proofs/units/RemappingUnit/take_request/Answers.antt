use Rattle.std.proofs.Common.{rules}
use Rattle.sva_iommu.proofs.units.RemappingUnit.take_request.Goals as goal

pub returns-clause-first : goal.returns-clause-first
returns-clause-first c = search rules

pub returns-clause-rest : goal.returns-clause-rest
returns-clause-rest c = search rules
