use Rattle.std.proofs.Common.{◌+◌, length}
use Rattle.sva_script_reading.specs.Begins.{lines_from}
use Rattle.sva_race_texts.proofs.RunLemmas.{CompletesScript}
use Rattle.sva_race_texts.proofs.before.read_before.Given as goal

-- what was read, and what is read of the lines that are left, is what is read of all
abbrev pub invariant-loop-number : goal.invariant-loop-number
invariant-loop-number l =
    CompletesScript l.names l.has_ended l.reading l.initial.reading (lines_from (l.lines.number + 1) l.lines.rest.now)
    (lines_from (l.from.number + 1) l.from.rest.now)

-- what is left gets shorter
abbrev pub decreases-loop-number : goal.decreases-loop-number
decreases-loop-number l = length l.lines.rest.now
