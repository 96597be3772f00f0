use Rattle.sva_frames.proofs.waits.Waits.copied.Goals as goal

pub returns : goal.returns
returns c = cc
