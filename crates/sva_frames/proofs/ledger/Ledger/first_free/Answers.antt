use Rattle.sva_frames.proofs.Ledgers.{first_free_is}
use Rattle.sva_frames.proofs.ledger.Ledger.first_free.Goals as goal

pub returns : goal.returns
returns c = rw (← c.self.view_is)
    (first_free_is c.self.inside.stages.items c.self.inside.free c.self.inside.counts c.lowest.result c.self.invariant c.lowest.ensures.none
    c.lowest.ensures.some)
