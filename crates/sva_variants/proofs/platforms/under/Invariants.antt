use Rattle.std.proofs.Common.{◌≡◌, ◌++◌, ◌+◌, length}
use Rattle.std.specs.Prelude.{flat_map}
use Rattle.sva_script_reading.specs.Begins.{lines_from}
use Rattle.sva_variants.specs.Platforms.{line_under, under}
use Rattle.sva_variants.proofs.platforms.under.Given as goal

-- the lines so far, and those that are left
abbrev pub invariant-loop-number : goal.invariant-loop-number
invariant-loop-number l =
    l.out.items ++ flat_map (line_under l.settings) (lines_from (l.lines.number + 1) l.lines.rest.now) ≡ under l.settings l.text

-- what is left gets shorter
abbrev pub decreases-loop-number : goal.decreases-loop-number
decreases-loop-number l = length l.lines.rest.now
