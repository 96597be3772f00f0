use Rattle.sva_laws.proofs.Debts.{always_debts}
use Rattle.sva_laws.proofs.Targets.{always_front, always_awaits}
use Rattle.sva_laws.proofs.ByUnit.{always_by_unit}
use Rattle.sva_laws.proofs.FrontExact.{always_front_of}
use Rattle.sva_laws.proofs.TargetsByUnit.{always_targets}
use Rattle.sva_laws.proofs.waits_and_fronts.Goals as goal

pub returns-clause-fronts : goal.returns-clause-fronts
returns-clause-fronts c = λ rule config steps e fits. always_front rule config steps e

pub returns-clause-debts : goal.returns-clause-debts
returns-clause-debts c = λ rule config steps m e owed fits gone. always_debts rule config steps m e owed gone

pub returns-clause-targets : goal.returns-clause-targets
returns-clause-targets c = λ rule config steps m e owed fits gone silent. always_awaits rule config steps m e owed gone silent

pub returns-clause-by_unit : goal.returns-clause-by_unit
returns-clause-by_unit c = λ rule config steps m owed fits gone. always_by_unit rule config steps m owed gone

pub returns-clause-front_of : goal.returns-clause-front_of
returns-clause-front_of c = λ rule config steps e fits. always_front_of rule config steps e

pub returns-clause-awaited : goal.returns-clause-awaited
returns-clause-awaited c = λ rule config before step since m e owed fits present gone. always_targets rule config before step since m e owed present gone
