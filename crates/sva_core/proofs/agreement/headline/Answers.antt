use Rattle.sva_core.proofs.Agreed.{agreed, run_agrees}
use Rattle.sva_core.proofs.agreement.headline.Goals as goal

pub returns-clause-agrees : goal.returns-clause-agrees
returns-clause-agrees c = agreed

pub returns-clause-runs : goal.returns-clause-runs
returns-clause-runs c = run_agrees
