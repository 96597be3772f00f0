use Rattle.sva_pasid.proofs.MoveLemmas.{table_by_moves, keeps_numbers, quiet_after_unbinding}
use Rattle.sva_pasid.proofs.laws.laws_of_moves.Goals as goal

pub returns-clause-rows : goal.returns-clause-rows
returns-clause-rows c = table_by_moves

pub returns-clause-numbers : goal.returns-clause-numbers
returns-clause-numbers c = keeps_numbers

pub returns-clause-unbinding : goal.returns-clause-unbinding
returns-clause-unbinding c = quiet_after_unbinding
