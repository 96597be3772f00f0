use Rattle.sva_snapshot.specs.Shown.{job_shown}
use Rattle.sva_lines.specs.Units.{job_line}
use Rattle.sva_lines.proofs.Lines.{said_more}
use Rattle.sva_lines.proofs.units.put_jobs.Goals as goal

pub loop-job-preserved : goal.loop-job-preserved
loop-job-preserved c =
    said_more job_line job_shown _ _ _ c.args.jobs.now c.loop-job.job-index c.job-item.result c.loop-job-test.true c.job-item.is
    c.loop-job.invariant c.in_ok-put_job.ensures
