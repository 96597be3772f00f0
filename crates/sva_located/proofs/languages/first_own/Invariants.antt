use Rattle.std.proofs.Common.{◌≡◌, ◌+◌, length}
use Rattle.sva_script_reading.specs.Begins.{lines_from}
use Rattle.sva_located.specs.Languages.{first_own, first_own_in}
use Rattle.sva_located.proofs.languages.first_own.Given as goal

-- none of those before tells it
abbrev pub invariant-loop-number : goal.invariant-loop-number
invariant-loop-number l = first_own (lines_from (l.lines.number + 1) l.lines.rest.now) ≡ first_own_in l.text

-- what is left gets shorter
abbrev pub decreases-loop-number : goal.decreases-loop-number
decreases-loop-number l = length l.lines.rest.now
