use Rattle.std.proofs.Common.{◌≡◌, ◌++◌, drop, map}
use Rattle.sva_explain.specs.Frames.{withheld_if}
use Rattle.sva_lines.specs.Pieces.{rows}
use Rattle.sva_explain.specs.Units.{held_seen}
use Rattle.sva_explain.proofs.limits.frames.put_withheld.Given as goal

-- what was said and what is left make the whole
abbrev pub invariant-loop-frame : goal.invariant-loop-frame
invariant-loop-frame l =
    l.out.items ++ rows withheld_if l.frame (map held_seen (drop l.frame l.frames))
    ≡ l.initial.out.items ++ rows withheld_if 0 (map held_seen l.frames)
