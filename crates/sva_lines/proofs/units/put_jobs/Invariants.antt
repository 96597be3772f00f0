use Rattle.std.proofs.Common.{◌≡◌, ◌++◌, flat_map, map, take}
use Rattle.sva_lines.specs.Units.{job_line}
use Rattle.sva_snapshot.specs.Shown.{job_shown}
use Rattle.sva_lines.proofs.units.put_jobs.Given as goal

abbrev pub invariant-loop-job : goal.invariant-loop-job
invariant-loop-job l =
    l.out.items ≡ l.initial.out.items ++ flat_map job_line (map job_shown (take l.job-index l.jobs))
