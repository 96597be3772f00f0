use Rattle.std.proofs.Common.{◌≡◌, ◌+◌, length}
use Rattle.sva_script_reading.specs.Begins.{lines_from}
use Rattle.sva_race_texts.specs.Limits.{first_words}
use Rattle.sva_race_texts.proofs.limits.put_limits.Given as goal

-- the first line that says something is that of the lines that are left, and nothing was told
abbrev pub invariant-loop-number : goal.invariant-loop-number
invariant-loop-number l = record {
  first : first_words (lines_from (l.from.number + 1) l.from.rest.now) ≡ first_words (lines_from (l.lines.number + 1) l.lines.rest.now);
  told : l.out.items ≡ l.initial.out.items;
}

-- what is left gets shorter
abbrev pub decreases-loop-number : goal.decreases-loop-number
decreases-loop-number l = length l.lines.rest.now
