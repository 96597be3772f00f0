use Rattle.std.proofs.Common.{◌≡◌, ◌++◌, drop}
use Rattle.sva_lines.specs.Pieces.{rows}
use Rattle.sva_race_reports.specs.WitnessEnds.{wait_text}
use Rattle.sva_race_reports.proofs.ends.put_waits.Given as goal

-- what was said and what is left make the whole
abbrev pub invariant-loop-place : goal.invariant-loop-place
invariant-loop-place g l =
    l.out.items ++ rows (wait_text g.E.Explains.explained l.race l.moment) l.place (drop l.place l.lines)
    ≡ l.initial.out.items ++ rows (wait_text g.E.Explains.explained l.race l.moment) 0 l.lines
