use Rattle.std.proofs.Common.{arith}
use Rattle.sva_prq.proofs.job_table.JobTable.file.Goals as goal

pub invariant_of-self-2 : goal.invariant_of-self-2
invariant_of-self-2 c = omega arith
