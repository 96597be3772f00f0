use Rattle.sva_race_texts.proofs.PossibleLemmas.{found}
use Rattle.sva_race_texts.proofs.possible.refusals_are_found.Goals as goal

pub returns : goal.returns
returns c = found
