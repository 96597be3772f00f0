use Rattle.std.proofs.Common.{rules}
use Rattle.sva_msg.proofs.in_flight.Bag.get.Goals as goal

pub returns-clause-message : goal.returns-clause-message
returns-clause-message c = search rules
