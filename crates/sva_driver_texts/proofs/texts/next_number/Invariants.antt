use Rattle.std.proofs.Common.{◌≡◌, ◌+◌, length}
use Rattle.sva_script_reading.specs.Begins.{lines_from}
use Rattle.sva_driver_texts.proofs.texts.next_number.Given as goal

-- those that were taken off and those that are left are all
abbrev pub invariant-loop-line : goal.invariant-loop-line
invariant-loop-line l =
    length (lines_from (l.from.number + 1) l.from.rest.now) ≡ l.lines.number + length (lines_from (l.lines.number + 1) l.lines.rest.now)

-- what is left gets shorter
abbrev pub decreases-loop-line : goal.decreases-loop-line
decreases-loop-line l = length l.lines.rest.now
