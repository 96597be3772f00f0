use Rattle.sva_refinement.proofs.Responses.{always_finds_finished}
use Rattle.sva_refinement.proofs.responses_are_found.Goals as goal

pub returns : goal.returns
returns c = always_finds_finished
