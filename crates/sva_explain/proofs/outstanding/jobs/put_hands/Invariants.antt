use Rattle.std.proofs.Common.{◌≡◌, ◌++◌, drop, map, option_map}
use Rattle.sva_lines.specs.Pieces.{rows}
use Rattle.sva_snapshot.specs.Shown.{host_group_shown, job_shown}
use Rattle.sva_explain.specs.Jobs.{hand_if}
use Rattle.sva_explain.proofs.outstanding.jobs.put_hands.Given as goal

-- what was said and what is left make the whole
abbrev pub invariant-loop-worker : goal.invariant-loop-worker
invariant-loop-worker l =
    l.out.items ++ rows (hand_if l.level l.snapshot (host_group_shown l.group)) l.worker (map (option_map job_shown) (drop l.worker l.hands))
    ≡ l.initial.out.items ++ rows (hand_if l.level l.snapshot (host_group_shown l.group)) 0 (map (option_map job_shown) l.hands)
