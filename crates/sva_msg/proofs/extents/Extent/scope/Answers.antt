use Rattle.std.proofs.Common.{rules}
use Rattle.sva_msg.proofs.extents.Extent.scope.Goals as goal

pub returns-in-Pages : goal.returns-in-Pages
returns-in-Pages c = search rules
