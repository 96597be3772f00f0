use Rattle.std.proofs.Common.{◌≡◌, ◌≤◌, ◌+◌, ◌-◌, drop, length, map}
use Rattle.std.specs.Prelude.{codes}
use Rattle.sva_race_texts.specs.Words.{pieces}
use Rattle.sva_race_texts.proofs.Lists.{said}
use Rattle.sva_race_texts.specs.Conditions.{each_from, literals_of, condition_of}
use Rattle.sva_race_texts.specs.Seen.{line_seen, literals_seen}
use Rattle.sva_race_texts.proofs.claims.read_condition.Given as goal

-- the pieces that are left, behind the lists so far, give what all words give
abbrev pub invariant-loop-count : goal.invariant-loop-count
invariant-loop-count l = record {
  read : each_from (literals_of l.config l.names (map line_seen l.lines)) (l.at + l.start) (map literals_seen l.condition.items)
      (pieces (codes "or") (drop l.start (said l.words)))
      ≡ condition_of l.config l.names (map line_seen l.lines) l.at (said l.words);
  within : l.start ≤ length l.words;
}

-- what is left gets shorter
abbrev pub decreases-loop-count : goal.decreases-loop-count
decreases-loop-count l = length l.words - l.start
