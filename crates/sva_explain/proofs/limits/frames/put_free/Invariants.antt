use Rattle.std.proofs.Common.{◌≡◌, ◌++◌, drop, map}
use Rattle.sva_explain.specs.Frames.{free_if}
use Rattle.sva_lines.specs.Pieces.{rows}
use Rattle.sva_explain.specs.Units.{held_seen}
use Rattle.sva_explain.proofs.limits.frames.put_free.Given as goal

-- what was said and what is left make the whole
abbrev pub invariant-loop-frame : goal.invariant-loop-frame
invariant-loop-frame l =
    l.out.items ++ rows free_if l.frame (map held_seen (drop l.frame l.frames))
    ≡ l.initial.out.items ++ rows free_if 0 (map held_seen l.frames)
