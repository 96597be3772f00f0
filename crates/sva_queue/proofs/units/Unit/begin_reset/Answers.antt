use Rattle.std.proofs.Common.{rules}
use Rattle.sva_queue.proofs.units.Unit.begin_reset.Goals as goal

pub returns : goal.returns
returns c = search rules
