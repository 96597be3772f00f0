use Rattle.std.proofs.Common.{rules}
use Rattle.sva_msg.proofs.in_flight.Bag.left.Goals as goal

pub returns-clause-left : goal.returns-clause-left
returns-clause-left c = search rules
