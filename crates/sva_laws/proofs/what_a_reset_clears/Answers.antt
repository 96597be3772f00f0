use Rattle.sva_laws.proofs.GoingOn.{always_answers}
use Rattle.sva_laws.proofs.InReset.{always_in_reset}
use Rattle.sva_laws.proofs.what_a_reset_clears.Goals as goal

pub returns-clause-clear : goal.returns-clause-clear
returns-clause-clear c = λ rule config steps e fits. always_in_reset rule config steps e

pub returns-clause-answered : goal.returns-clause-answered
returns-clause-answered c = λ rule config steps e fits. always_answers rule config steps e
