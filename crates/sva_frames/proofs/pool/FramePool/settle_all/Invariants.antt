use Rattle.std.proofs.Common.{◌≡◌, map}
use Rattle.sva_frames.specs.Frames.{settled, past_reset}
use Rattle.sva_frames.proofs.Settling.{total}
use Rattle.sva_frames.proofs.pool.FramePool.settle_all.Given as goal

abbrev pub invariant-loop : goal.invariant-loop
invariant-loop l = map (settled l.unit past_reset) l.self ≡ map (settled l.unit past_reset) l.initial.self

abbrev pub decreases-loop : goal.decreases-loop
decreases-loop l = total l.self
