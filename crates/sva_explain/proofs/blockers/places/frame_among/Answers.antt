use Rattle.std.proofs.Common.{◌∙◌, ap, slice_get}
use Rattle.sva_explain.proofs.Frames.{all_seen}
use Rattle.sva_explain.proofs.blockers.places.frame_among.Goals as goal

pub returns : goal.returns
returns c = c.frame_at.ensures ∙ ap (λ places. slice_get places c.args.frame) (all_seen c.args.frames.now)
