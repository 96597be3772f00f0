use Rattle.std.proofs.Common.{◌≡◌, ◌+◌, length}
use Rattle.sva_grammar.specs.Grammar.{lines_of}
use Rattle.sva_script_reading.proofs.lines.has_many_lines.Given as goal

-- those that were taken off and those that are left are all
abbrev pub invariant-loop-line : goal.invariant-loop-line
invariant-loop-line l = length (lines_of l.text) ≡ l.lines.number + length (lines_of l.lines.rest.now)

-- what is left gets shorter
abbrev pub decreases-loop-line : goal.decreases-loop-line
decreases-loop-line l = length l.lines.rest.now
