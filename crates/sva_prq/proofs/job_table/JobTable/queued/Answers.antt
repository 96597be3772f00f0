use Rattle.std.proofs.Common.{ap, arith, length}
use Rattle.sva_prq.specs.JobTable.{JobTable}
use Rattle.sva_prq.proofs.job_table.JobTable.queued.Goals as goal

pub returns : goal.returns
returns c = omega (arith, c.len.ensures, c.self.inside.jobs.ok.0, ap (λ (s : JobTable). length s.jobs) c.self.view_is)
