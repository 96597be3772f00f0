use Rattle.std.proofs.Common.{rules}
use Rattle.sva_msg.proofs.in_flight.Bag.new.Goals as goal

pub returns : goal.returns
returns c = search rules
