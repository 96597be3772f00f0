use Rattle.std.proofs.Common.{rules}
use Rattle.sva_msg.proofs.ranges.Range.order.Goals as goal

pub returns-clause-order : goal.returns-clause-order
returns-clause-order c = search rules
