use Rattle.sva_laws.proofs.FirstCauses.{always_first}
use Rattle.sva_laws.proofs.Refused.{always_stays}
use Rattle.sva_laws.proofs.RefusedWorkers.{always_has_cause}
use Rattle.sva_laws.proofs.refusals.Goals as goal

pub returns-clause-stays : goal.returns-clause-stays
returns-clause-stays c = λ rule config steps s r fits refused. always_stays rule config steps s r refused

pub returns-clause-causes : goal.returns-clause-causes
returns-clause-causes c = λ rule config steps s r fits refused. always_has_cause rule config steps s r refused

pub returns-clause-first : goal.returns-clause-first
returns-clause-first c = λ rule config steps s fits. always_first rule config steps s
