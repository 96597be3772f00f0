use Rattle.std.proofs.Common.{ap, length, arith}
use Rattle.sva_frames.proofs.Holdings.{length-holdings}
use Rattle.sva_frames.proofs.Taking.{place_at}
use Rattle.sva_frames.proofs.pool.FramePool.place.Goals as goal

pub get-requires : goal.get-requires
get-requires c = omega (arith, c.requires, ap length c.self.view_is, length-holdings 0 c.self.inside.ledger c.self.inside.lanes.items)

pub returns : goal.returns
returns c = rw (← c.self.view_is, c.place.ensures) (place_at c.self.inside.ledger c.self.inside.lanes.items c.args.number c.get.result c.get.ensures)
