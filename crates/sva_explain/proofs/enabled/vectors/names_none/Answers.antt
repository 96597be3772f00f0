use Rattle.sva_explain.proofs.VectorBits.{names_none_seen}
use Rattle.sva_explain.proofs.enabled.vectors.names_none.Goals as goal

pub returns : goal.returns
returns c = names_none_seen c.args.vector c.ranges.vector.fits
