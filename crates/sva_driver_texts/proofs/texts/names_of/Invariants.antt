use Rattle.std.proofs.Common.{◌≡◌, ◌+◌, [], length}
use Rattle.sva_script_reading.specs.Begins.{lines_from}
use Rattle.sva_race_texts.specs.Texts.{names_from}
use Rattle.sva_driver_texts.proofs.texts.names_of.Given as goal

abbrev pub invariant-loop-number : goal.invariant-loop-number
invariant-loop-number l =
    names_from l.names (lines_from (l.lines.number + 1) l.lines.rest.now) ≡ names_from [] (lines_from (l.from.number + 1) l.from.rest.now)

-- what is left gets shorter
abbrev pub decreases-loop-number : goal.decreases-loop-number
decreases-loop-number l = length l.lines.rest.now
