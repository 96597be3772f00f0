use Rattle.std.proofs.Common.{◌+◌, length}
use Rattle.sva_script_reading.specs.Begins.{lines_from}
use Rattle.sva_script_reading.proofs.BeginLemmas.{Completes}
use Rattle.sva_script_reading.proofs.reading.read_lines.Given as goal

-- what is appended of the lines that are left is appended of all
abbrev pub invariant-loop-number : goal.invariant-loop-number
invariant-loop-number l =
    Completes l.names l.initial.names l.has_ended (lines_from (l.lines.number + 1) l.lines.rest.now)
    (lines_from (l.initial.lines.number + 1) l.initial.lines.rest.now) l.faults.items l.initial.faults.items

-- what is left gets shorter
abbrev pub decreases-loop-number : goal.decreases-loop-number
decreases-loop-number l = length l.lines.rest.now
