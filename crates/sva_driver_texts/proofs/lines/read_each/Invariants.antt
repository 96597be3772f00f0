use Rattle.std.proofs.Common.{◌≡◌, drop}
use Rattle.sva_driver_texts.specs.Bodies.{lines_seen}
use Rattle.sva_driver_texts.specs.Readings.{behind_lines}
use Rattle.sva_driver_texts.proofs.lines.read_each.Given as goal

-- what is read of the lines that are left is what is read of all
abbrev pub invariant-loop-line : goal.invariant-loop-line
invariant-loop-line l =
    behind_lines l.config l.names l.reading (lines_seen (drop l.line-index l.lines))
    ≡ behind_lines l.config l.names l.initial.reading (lines_seen l.lines)
