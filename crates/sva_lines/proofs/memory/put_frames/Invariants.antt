use Rattle.std.proofs.Common.{◌≡◌, ◌++◌, drop, map}
use Rattle.sva_address_spaces.specs.Seen.{places_seen}
use Rattle.sva_frames.specs.Reading.{holding_of}
use Rattle.sva_lines.specs.Memory.{frame_lines}
use Rattle.sva_lines.specs.Pieces.{rows}
use Rattle.sva_lines.proofs.memory.put_frames.Given as goal

-- what was said and what is left make the whole
abbrev pub invariant-loop-frame : goal.invariant-loop-frame
invariant-loop-frame l =
    l.out.items ++ rows frame_lines l.frame (places_seen (map holding_of (drop l.frame l.frames)))
    ≡ l.initial.out.items ++ rows frame_lines 0 (places_seen (map holding_of l.frames))
