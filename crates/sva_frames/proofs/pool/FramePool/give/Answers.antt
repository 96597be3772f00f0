use Rattle.std.proofs.Common.{set, ap, ◌∙◌}
use Rattle.sva_frames.specs.Frames.{Free}
use Rattle.sva_frames.specs.Pool.{holdings_from}
use Rattle.sva_frames.proofs.Taking.{mapped_within, given-invariant, given-frames}
use Rattle.sva_frames.proofs.pool.FramePool.give.Goals as goal

pub set-requires : goal.set-requires
set-requires c = mapped_within c.self.inside.ledger c.self.inside.lanes.items c.frame.inside.number (rw (c.self.view_is, c.frame.view_is) c.requires)

pub invariant_of-self : goal.invariant_of-self
invariant_of-self c =
    rw c.set.ensures (given-invariant c.self.inside.ledger c.self.inside.lanes.items c.frame.inside.number c.self.invariant
    (rw (c.self.view_is, c.frame.view_is) c.requires))

pub returns : goal.returns
returns c =
    ap (λ ss. holdings_from 0 ss c.self.inside.lanes.items) c.set.ensures
    ∙ given-frames c.self.inside.ledger c.self.inside.lanes.items c.frame.inside.number
    ∙ ap (λ hs. set hs c.frame.inside.number Free) c.self.view_is
    ∙ ap (λ n. set c.args.self.now n Free) c.frame.view_is
