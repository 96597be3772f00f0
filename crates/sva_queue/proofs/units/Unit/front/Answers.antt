use Rattle.std.proofs.Common.{ap}
use Rattle.sva_queue.specs.Queue.{Queue}
use Rattle.sva_queue.proofs.units.Unit.front.Goals as goal

pub returns-clause-front : goal.returns-clause-front
returns-clause-front c = ap (λ (q : Queue). q.front) c.self.view_is
