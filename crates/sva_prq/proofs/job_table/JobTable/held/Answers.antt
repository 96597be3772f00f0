use Rattle.std.proofs.Common.{arith}
use Rattle.std.proofs.lemmas.Grind.{common_steps}
use Rattle.sva_prq.proofs.job_table.JobTable.held.Goals as goal

pub returns : goal.returns
returns c = grind (arith, common_steps)
