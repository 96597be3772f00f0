use Rattle.std.proofs.Common.{length, ap, arith}
use Rattle.sva_queue.proofs.Windows.{length-window}
use Rattle.sva_queue.proofs.ring.Ring.room.Goals as goal

pub returns : goal.returns
returns c =
    let q = c.self.inside in
    let long = length-window 64 q.head q.len q.places.items c.self.invariant.1 c.self.invariant.2 c.self.invariant.0 in
    omega (arith, long, c.self.invariant.2, ap length c.self.view_is)
