use Rattle.std.proofs.Common.{rules}
use Rattle.sva_pasid.proofs.tables.lowest_in.Goals as goal

pub returns : goal.returns
returns c = search rules
