use Rattle.std.proofs.Common.{◌≡◌, ◌++◌, drop}
use Rattle.sva_lines.specs.Pieces.{rows}
use Rattle.sva_race_reports.specs.Ends.{piece}
use Rattle.sva_race_reports.proofs.pieces.put_pieces.Given as goal

-- what was said and what is left make the whole
abbrev pub invariant-loop-place : goal.invariant-loop-place
invariant-loop-place l =
    l.out.items ++ rows (piece l.race l.threads l.end) l.place (drop l.place l.lines)
    ≡ l.initial.out.items ++ rows (piece l.race l.threads l.end) 0 l.lines
