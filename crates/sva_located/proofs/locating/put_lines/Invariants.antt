use Rattle.std.proofs.Common.{◌≡◌, ◌+◌, ◌++◌, length}
use Rattle.sva_script_reading.specs.Begins.{lines_from}
use Rattle.sva_located.specs.Located.{lines_text, told_lines}
use Rattle.sva_located.proofs.locating.put_lines.Given as goal

-- the lines so far, with those that are left
abbrev pub invariant-loop-number : goal.invariant-loop-number
invariant-loop-number l =
    l.out.items ++ told_lines l.name l.text l.count (lines_from (l.lines.number + 1) l.lines.rest.now)
    ≡ l.initial.out.items ++ lines_text l.name l.text l.report

-- what is left gets shorter
abbrev pub decreases-loop-number : goal.decreases-loop-number
decreases-loop-number l = length l.lines.rest.now
