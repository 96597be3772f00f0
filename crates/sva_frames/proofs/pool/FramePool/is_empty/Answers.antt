use Rattle.sva_frames.proofs.pool.FramePool.is_empty.Goals as goal

pub returns : goal.returns
returns c = cc
