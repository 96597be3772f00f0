use Rattle.std.proofs.Common.{◌≡◌, ◌++◌, flat_map, map, take}
use Rattle.sva_snapshot.specs.Shown.{host_group_shown}
use Rattle.sva_explain.specs.Jobs.{job_at_if}
use Rattle.sva_explain.proofs.outstanding.jobs.put_job_at.Given as goal

-- what was said so far
abbrev pub invariant-loop-group : goal.invariant-loop-group
invariant-loop-group l =
    l.out.items ≡ l.initial.out.items ++ flat_map (job_at_if l.level l.snapshot l.index) (map host_group_shown (take l.group-index l.groups))
