use Rattle.std.proofs.Common.{◌≡◌, ◌++◌, ◌+◌, length, map}
use Rattle.sva_script_reading.specs.Begins.{lines_from}
use Rattle.sva_variants.specs.Cuts.{cut_seen, cuts_from, cuts_of}
use Rattle.sva_variants.proofs.cuts.cuts_in.Given as goal

-- those so far, and those of the lines that are left
abbrev pub invariant-loop-number : goal.invariant-loop-number
invariant-loop-number l =
    map cut_seen l.found.items ++ cuts_from (lines_from (l.lines.number + 1) l.lines.rest.now) ≡ cuts_of l.text

-- what is left gets shorter
abbrev pub decreases-loop-number : goal.decreases-loop-number
decreases-loop-number l = length l.lines.rest.now
