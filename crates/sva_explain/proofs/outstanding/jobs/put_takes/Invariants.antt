use Rattle.std.proofs.Common.{◌≡◌, ◌++◌, drop, map, option_map}
use Rattle.sva_lines.specs.Pieces.{rows}
use Rattle.sva_snapshot.specs.Shown.{job_shown}
use Rattle.sva_explain.specs.Jobs.{take_if}
use Rattle.sva_explain.proofs.outstanding.jobs.put_takes.Given as goal

-- what was said and what is left make the whole
abbrev pub invariant-loop-worker : goal.invariant-loop-worker
invariant-loop-worker l =
    l.out.items ++ rows (take_if l.snapshot) l.worker (map (option_map job_shown) (drop l.worker l.hands))
    ≡ l.initial.out.items ++ rows (take_if l.snapshot) 0 (map (option_map job_shown) l.hands)
