use Rattle.std.proofs.Common.{rules}
use Rattle.sva_prq.proofs.jobs.Job.asks.Goals as goal

pub returns-clause-asks : goal.returns-clause-asks
returns-clause-asks c = search rules
