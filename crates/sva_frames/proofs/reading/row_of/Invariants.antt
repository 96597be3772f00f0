use Rattle.std.proofs.Common.{◌≡◌, take, length}
use Rattle.sva_frames.specs.Pool.{row}
use Rattle.sva_frames.proofs.reading.row_of.Given as goal

abbrev pub invariant-loop-unit : goal.invariant-loop-unit
invariant-loop-unit l = (length l.targets ≡ 8) × (take l.unit l.targets ≡ row (take l.unit l.lanes) l.frame)
