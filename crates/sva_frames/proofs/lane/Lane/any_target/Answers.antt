use Rattle.sva_frames.proofs.Lanes.{any_none, any_some}
use Rattle.sva_frames.proofs.lane.Lane.any_target.Goals as goal

pub returns-clause-none : goal.returns-clause-none
returns-clause-none c = rw (← c.self.view_is) (any_none c.self.inside.cells.items c.self.inside.heads c.any.result c.self.invariant c.any.ensures.none)

pub returns-clause-some : goal.returns-clause-some
returns-clause-some c = rw (← c.self.view_is) (any_some c.self.inside.cells.items c.self.inside.heads c.any.result c.self.invariant c.any.ensures.some)
