use Rattle.std.proofs.Common.{◌≡◌, ◌+◌, length}
use Rattle.sva_script_reading.specs.Begins.{lines_from}
use Rattle.sva_race_texts.specs.Texts.{from_race}
use Rattle.sva_race_texts.proofs.behind.read_from_race.Given as goal

-- none of the lines so far says `race`
abbrev pub invariant-loop-number : goal.invariant-loop-number
invariant-loop-number l =
    from_race l.config l.names l.reading l.lines.number (lines_from (l.lines.number + 1) l.lines.rest.now)
    ≡ from_race l.config l.names l.initial.reading l.from.number (lines_from (l.from.number + 1) l.from.rest.now)

-- what is left gets shorter
abbrev pub decreases-loop-number : goal.decreases-loop-number
decreases-loop-number l = length l.lines.rest.now
