use Rattle.sva_model.proofs.RangeLemmas.{are_codes}
use Rattle.sva_model.proofs.ranges.codes.Goals as goal

pub returns : goal.returns
returns c = are_codes
