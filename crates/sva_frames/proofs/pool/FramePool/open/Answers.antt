use Rattle.std.proofs.Common.{ap, ◌∙◌, arith}
use Rattle.sva_frames.specs.Pool.{holdings_from}
use Rattle.sva_frames.proofs.Taking.{opened-frames, opened-invariant}
use Rattle.sva_frames.proofs.pool.FramePool.open.Goals as goal

pub invariant_of-result : goal.invariant_of-result
invariant_of-result c =
    opened-invariant c.args.frames c.in_ok-ledger.ledger c.in_ok-lanes.lanes.items (omega arith) c.in_ok-ledger.ensures c.in_ok-lanes.ensures

pub returns : goal.returns
returns c = ap (λ ss. holdings_from 0 ss c.in_ok-lanes.lanes.items) c.in_ok-ledger.ensures ∙ opened-frames c.args.frames c.in_ok-lanes.lanes.items
