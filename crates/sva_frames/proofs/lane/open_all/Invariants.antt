use Rattle.std.proofs.Common.{◌≡◌, replicate, None}
use Rattle.sva_frames.proofs.lane.open_all.Given as goal

abbrev pub invariant-loop-unit : goal.invariant-loop-unit
invariant-loop-unit l = l.lanes.items ≡ replicate l.unit (replicate l.frames None)
