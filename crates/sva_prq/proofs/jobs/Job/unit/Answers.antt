use Rattle.std.proofs.Common.{rules}
use Rattle.sva_prq.proofs.jobs.Job.unit.Goals as goal

pub returns : goal.returns
returns c = search rules
