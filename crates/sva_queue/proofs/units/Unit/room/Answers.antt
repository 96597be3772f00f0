use Rattle.std.proofs.Common.{ap, arith, length}
use Rattle.sva_queue.specs.Queue.{Queue}
use Rattle.sva_queue.proofs.units.Unit.room.Goals as goal

pub returns-clause-room : goal.returns-clause-room
returns-clause-room c = omega (arith, c.room.ensures, ap (λ (q : Queue). length q.descriptors) c.self.view_is)
