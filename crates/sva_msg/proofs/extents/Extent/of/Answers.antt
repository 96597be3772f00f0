use Rattle.std.proofs.Common.{rules}
use Rattle.sva_msg.proofs.extents.Extent.of.Goals as goal

pub returns-in-None : goal.returns-in-None
returns-in-None c = search rules
