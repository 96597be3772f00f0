use Rattle.std.proofs.Common.{rules}
use Rattle.sva_queue.proofs.units.Unit.is_complete.Goals as goal

pub returns-else-not-drain : goal.returns-else-not-drain
returns-else-not-drain c = search rules
