use Rattle.std.proofs.Common.{◌≡◌, ◌++◌, drop, map, option_map}
use Rattle.sva_lines.specs.Pieces.{rows}
use Rattle.sva_lines.specs.Units.{hand_lines}
use Rattle.sva_snapshot.specs.Shown.{job_shown}
use Rattle.sva_lines.proofs.units.put_hands.Given as goal

-- what was said and what is left make the whole
abbrev pub invariant-loop-worker : goal.invariant-loop-worker
invariant-loop-worker l =
    l.out.items ++ rows hand_lines l.worker (map (option_map job_shown) (drop l.worker l.hands))
    ≡ l.initial.out.items ++ rows hand_lines 0 (map (option_map job_shown) l.hands)
