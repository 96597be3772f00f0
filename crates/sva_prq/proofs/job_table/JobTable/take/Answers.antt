use Rattle.std.proofs.Common.{rules}
use Rattle.sva_prq.proofs.job_table.JobTable.take.Goals as goal

pub returns : goal.returns
returns c = search rules
