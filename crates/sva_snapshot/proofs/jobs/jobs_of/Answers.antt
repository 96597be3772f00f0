use Rattle.std.proofs.Common.{ap, map, sym, ◌∙◌}
use Rattle.sva_parts_by_labels.specs.JobTable.{job_seen}
use Rattle.sva_snapshot.specs.Shown.{job_shown}
use Rattle.sva_snapshot.proofs.More.{shown_more}
use Rattle.sva_snapshot.proofs.jobs.jobs_of.Goals as goal

pub loop-place-preserved : goal.loop-place-preserved
loop-place-preserved c =
    ap (map job_shown) c.in_ok-push.ensures.items
    ∙ shown_more job_shown job_seen c.loop-place.jobs.items c.in_ok-job_of.field-0 c.args.table.now.jobs c.loop-place.place c.in-Some.job.now
    (sym c.in-Some.ensures) c.loop-place.invariant c.in_ok-job_of.ensures
