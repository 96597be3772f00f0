use Rattle.sva_labels.proofs.WaitingSteps.{filed_in_turn}
use Rattle.sva_labels.proofs.filed_in_turn.Goals as goal

pub returns : goal.returns
returns c = filed_in_turn
