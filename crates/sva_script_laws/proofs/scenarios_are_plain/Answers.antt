use Rattle.sva_script_laws.proofs.Keeping.{plains_are_same, plains_stay, scenarios_are_plain, unfit_is_told}
use Rattle.sva_script_laws.proofs.scenarios_are_plain.Goals as goal

pub returns-clause-bytes : goal.returns-clause-bytes
returns-clause-bytes c = scenarios_are_plain

pub returns-clause-same : goal.returns-clause-same
returns-clause-same c = plains_are_same

pub returns-clause-unfit : goal.returns-clause-unfit
returns-clause-unfit c = unfit_is_told

pub returns-clause-again : goal.returns-clause-again
returns-clause-again c = plains_stay
