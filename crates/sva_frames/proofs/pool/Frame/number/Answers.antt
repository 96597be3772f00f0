use Rattle.sva_frames.proofs.pool.Frame.number.Goals as goal

pub returns : goal.returns
returns c = cc
