use Rattle.std.proofs.Common.{◌≡◌, map, take}
use Rattle.sva_frames.specs.Reading.{holding_of}
use Rattle.sva_snapshot.proofs.spaces.frames_of.Given as goal

abbrev pub invariant-loop-number : goal.invariant-loop-number
invariant-loop-number l = map holding_of l.frames.items ≡ take l.number l.pool
