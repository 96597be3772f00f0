use Rattle.std.proofs.Common.{◌≡◌, ◌++◌, ◌+◌, length}
use Rattle.std.specs.Prelude.{flat_map}
use Rattle.sva_script_reading.specs.Begins.{lines_from}
use Rattle.sva_variants.specs.Platforms.{own_of, own_settings}
use Rattle.sva_variants.proofs.platforms.own_settings.Given as goal

-- those so far, and those of the lines that are left
abbrev pub invariant-loop-number : goal.invariant-loop-number
invariant-loop-number l = l.out.items ++ flat_map own_of (lines_from (l.lines.number + 1) l.lines.rest.now) ≡ own_settings l.text

-- what is left gets shorter
abbrev pub decreases-loop-number : goal.decreases-loop-number
decreases-loop-number l = length l.lines.rest.now
