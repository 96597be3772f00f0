use Rattle.std.proofs.Common.{◌≡◌, ◌++◌, ◌+◌, length}
use Rattle.sva_script_reading.specs.Begins.{lines_from}
use Rattle.sva_charts.specs.Witnesses.{rows_from}
use Rattle.sva_charts.proofs.witness_rows.put_rows.Given as goal

-- the rows so far, and those of the events that are left; each line has one
abbrev pub invariant-loop-number : goal.invariant-loop-number
invariant-loop-number l =
    (l.out.items ++ rows_from l.rows l.place (lines_from (l.lines.number + 1) l.lines.rest.now)
    ≡ l.initial.out.items ++ rows_from l.rows 0 (lines_from (l.events.number + 1) l.events.rest.now))
    × (l.lines.number ≡ l.events.number + l.place)

-- what is left gets shorter
abbrev pub decreases-loop-number : goal.decreases-loop-number
decreases-loop-number l = length l.lines.rest.now
