-- there is room at each unit that was looked at
use Rattle.sva_frames.proofs.Entering.{HaveRoomBelow}
use Rattle.sva_frames.proofs.pool.FramePool.has_room.Given as goal

abbrev pub invariant-loop-unit : goal.invariant-loop-unit
invariant-loop-unit l = HaveRoomBelow l.unit l.self l.targets
