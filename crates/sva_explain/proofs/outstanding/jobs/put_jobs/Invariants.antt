use Rattle.std.proofs.Common.{◌≡◌, ◌++◌, flat_map, map, take}
use Rattle.sva_snapshot.specs.Shown.{host_group_shown, job_shown}
use Rattle.sva_explain.specs.Jobs.{job_if}
use Rattle.sva_explain.proofs.outstanding.jobs.put_jobs.Given as goal

-- what was said so far
abbrev pub invariant-loop-job : goal.invariant-loop-job
invariant-loop-job l =
    l.out.items ≡ l.initial.out.items ++ flat_map (job_if l.level l.snapshot (host_group_shown l.group)) (map job_shown (take l.job-index l.jobs))
