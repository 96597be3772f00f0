use Rattle.std.proofs.Common.{◌≡◌, ◌++◌, drop, map}
use Rattle.sva_explain.specs.Ranges.{frame_if}
use Rattle.sva_lines.specs.Pieces.{rows}
use Rattle.sva_explain.specs.Units.{held_seen}
use Rattle.sva_explain.proofs.limits.ranges.put_frames_among.Given as goal

-- what was said and what is left make the whole
abbrev pub invariant-loop-frame : goal.invariant-loop-frame
invariant-loop-frame l =
    l.out.items ++ rows (frame_if l.snapshot l.space) l.frame (map held_seen (drop l.frame l.frames))
    ≡ l.initial.out.items ++ rows (frame_if l.snapshot l.space) 0 (map held_seen l.frames)
