use Rattle.std.proofs.Common.{rules}
use Rattle.sva_pasid.proofs.states.draining_state.Draining.invalidate.Goals as goal

pub returns-clause-value : goal.returns-clause-value
returns-clause-value c = search rules

pub returns-clause-ok : goal.returns-clause-ok
returns-clause-ok c = search rules
