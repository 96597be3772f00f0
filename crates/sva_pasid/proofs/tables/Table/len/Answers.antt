use Rattle.std.proofs.Common.{rules}
use Rattle.sva_pasid.proofs.tables.Table.len.Goals as goal

pub returns-clause-len : goal.returns-clause-len
returns-clause-len c = search rules
