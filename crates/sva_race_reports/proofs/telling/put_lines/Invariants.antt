use Rattle.std.proofs.Common.{◌≡◌, ◌++◌, drop}
use Rattle.sva_lines.specs.Pieces.{rows}
use Rattle.sva_race_reports.specs.Kinds.{kind_line_if}
use Rattle.sva_race_reports.proofs.telling.put_lines.Given as goal

-- what was said and what is left make the whole
abbrev pub invariant-loop-place : goal.invariant-loop-place
invariant-loop-place l =
    l.out.items ++ rows (kind_line_if l.few_ends) l.place (drop l.place l.kinds)
    ≡ l.initial.out.items ++ rows (kind_line_if l.few_ends) 0 l.kinds
