use Rattle.std.proofs.Common.{◌≡◌, map}
use Rattle.sva_frames.specs.Frames.{settled, past_cookie}
use Rattle.sva_frames.proofs.Settling.{total}
use Rattle.sva_frames.proofs.pool.FramePool.settle.Given as goal

abbrev pub invariant-loop : goal.invariant-loop
invariant-loop l = map (settled l.unit (past_cookie l.cookie)) l.self ≡ map (settled l.unit (past_cookie l.cookie)) l.initial.self

abbrev pub decreases-loop : goal.decreases-loop
decreases-loop l = total l.self
