use Rattle.std.proofs.Common.{sym, ◌∙◌}
use Rattle.sva_frames.proofs.Taking.{count_free, count_mapped, count_withheld}
use Rattle.sva_frames.proofs.pool.FramePool.counts.Goals as goal

pub returns-clause-free : goal.returns-clause-free
returns-clause-free c = rw (← c.self.view_is) (c.counts.ensures.free ∙ sym (count_free c.self.inside.ledger c.self.inside.lanes.items))

pub returns-clause-mapped : goal.returns-clause-mapped
returns-clause-mapped c = rw (← c.self.view_is) (c.counts.ensures.mapped ∙ sym (count_mapped c.self.inside.ledger c.self.inside.lanes.items))

pub returns-clause-withheld : goal.returns-clause-withheld
returns-clause-withheld c = rw (← c.self.view_is) (c.counts.ensures.withheld ∙ sym (count_withheld c.self.inside.ledger c.self.inside.lanes.items))
