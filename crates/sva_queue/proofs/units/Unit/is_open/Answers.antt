use Rattle.std.proofs.Common.{ap}
use Rattle.sva_queue.specs.Queue.{Queue}
use Rattle.sva_queue.proofs.units.Unit.is_open.Goals as goal

pub returns : goal.returns
returns c = ap (λ (q : Queue). q.is_open) c.self.view_is
