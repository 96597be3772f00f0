use Rattle.sva_lines.proofs.Lines.{said_more}
use Rattle.sva_snapshot.specs.Shown.{host_group_shown}
use Rattle.sva_explain.specs.Jobs.{job_at_if}
use Rattle.sva_explain.proofs.outstanding.jobs.put_job_at.Goals as goal

pub loop-group-preserved : goal.loop-group-preserved
loop-group-preserved c =
    said_more (job_at_if c.args.level c.args.snapshot.now c.args.index) host_group_shown _ _ _ c.args.groups.now c.loop-group.group-index
    c.group-item.result c.loop-group-test.true c.group-item.is c.loop-group.invariant c.in_ok-put_job_at_if.ensures
