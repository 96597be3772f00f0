use Rattle.std.proofs.Common.{◌≡◌, map, take}
use Rattle.sva_parts_by_labels.specs.JobTable.{job_seen}
use Rattle.sva_snapshot.specs.Shown.{job_shown}
use Rattle.sva_snapshot.proofs.jobs.jobs_of.Given as goal

abbrev pub invariant-loop-place : goal.invariant-loop-place
invariant-loop-place l = map job_shown l.jobs.items ≡ map job_seen (take l.place l.table.jobs)
