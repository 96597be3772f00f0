use Rattle.std.proofs.Common.{◌≡◌, ◌+◌, length}
use Rattle.sva_script_reading.specs.Begins.{lines_from}
use Rattle.sva_located.specs.Languages.{has_race, has_race_in}
use Rattle.sva_located.proofs.languages.has_race.Given as goal

-- none of those before says it
abbrev pub invariant-loop-number : goal.invariant-loop-number
invariant-loop-number l = has_race (lines_from (l.lines.number + 1) l.lines.rest.now) ≡ has_race_in l.text

-- what is left gets shorter
abbrev pub decreases-loop-number : goal.decreases-loop-number
decreases-loop-number l = length l.lines.rest.now
