use Rattle.std.proofs.Common.{rules}
use Rattle.sva_prq.proofs.job_table.JobTable.reserve.Goals as goal

pub invariant_of-self-2 : goal.invariant_of-self-2
invariant_of-self-2 c = search rules
