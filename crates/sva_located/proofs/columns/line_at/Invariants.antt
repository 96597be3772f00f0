use Rattle.std.proofs.Common.{◌≡◌, ◌+◌, length}
use Rattle.sva_script_reading.specs.Begins.{lines_from}
use Rattle.sva_located.specs.Columns.{line_at, line_in}
use Rattle.sva_located.proofs.columns.line_at.Given as goal

-- the line is among those that are left
abbrev pub invariant-loop-number : goal.invariant-loop-number
invariant-loop-number l = line_in l.wanted (lines_from (l.lines.number + 1) l.lines.rest.now) ≡ line_at l.wanted l.text

-- what is left gets shorter
abbrev pub decreases-loop-number : goal.decreases-loop-number
decreases-loop-number l = length l.lines.rest.now
