use Rattle.std.proofs.Common.{◌≡◌, ◌+◌, length}
use Rattle.sva_script_reading.specs.Begins.{lines_from}
use Rattle.sva_driver_texts.specs.WrittenOut.{written_from}
use Rattle.sva_driver_texts.proofs.written_out.take_lines.Given as goal

-- what comes of the lines that are left is what comes of all
abbrev pub invariant-loop-number : goal.invariant-loop-number
invariant-loop-number l =
    written_from l.writing (lines_from (l.lines.number + 1) l.lines.rest.now)
    ≡ written_from l.initial.writing (lines_from (l.from.number + 1) l.from.rest.now)

-- what is left gets shorter
abbrev pub decreases-loop-number : goal.decreases-loop-number
decreases-loop-number l = length l.lines.rest.now
