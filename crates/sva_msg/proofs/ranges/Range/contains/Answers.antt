use Rattle.std.proofs.Common.{rules}
use Rattle.sva_msg.proofs.ranges.Range.contains.Goals as goal

pub returns-then-page-self : goal.returns-then-page-self
returns-then-page-self c = search rules
