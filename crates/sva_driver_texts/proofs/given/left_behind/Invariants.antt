use Rattle.std.proofs.Common.{◌≡◌, ◌+◌, drop}
use Rattle.sva_driver_texts.specs.Bodies.{lines_seen}
use Rattle.sva_driver_texts.specs.WrittenOut.{size_of}
use Rattle.sva_driver_texts.proofs.given.left_behind.Given as goal

-- what is left is what there was, without the lines so far
abbrev pub invariant-loop-line : goal.invariant-loop-line
invariant-loop-line l = l.left + size_of (lines_seen l.lines) ≡ l.bytes + size_of (lines_seen (drop l.line-index l.lines))
