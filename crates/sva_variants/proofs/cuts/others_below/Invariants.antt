use Rattle.std.proofs.Common.{◌≡◌, ◌++◌, ◌+◌, length}
use Rattle.sva_script_reading.specs.Begins.{lines_from}
use Rattle.sva_variants.specs.Cuts.{others_from}
use Rattle.sva_variants.proofs.CutLemmas.{said}
use Rattle.sva_variants.proofs.cuts.others_below.Given as goal

-- those so far, and those of the lines that are left
abbrev pub invariant-loop-number : goal.invariant-loop-number
invariant-loop-number l =
    l.others.items ++ others_from (said l.first) (lines_from (l.lines.number + 1) l.lines.rest.now)
    ≡ others_from (said l.first) (lines_from (l.below.number + 1) l.below.rest.now)

-- what is left gets shorter
abbrev pub decreases-loop-number : goal.decreases-loop-number
decreases-loop-number l = length l.lines.rest.now
