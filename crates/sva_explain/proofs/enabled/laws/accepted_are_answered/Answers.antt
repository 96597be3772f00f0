use Rattle.sva_labels.specs.Causes.{causes_of}
use Rattle.sva_labels.specs.Outcomes.{result_of}
use Rattle.sva_explain.proofs.AcceptedSteps.{checked_ok}
use Rattle.sva_explain.proofs.enabled.laws.accepted_are_answered.Goals as goal

pub returns : goal.returns
returns c = λ wire step none. checked_ok (causes_of wire step) (result_of wire step) none
