use Rattle.std.proofs.Common.{◌≡◌, ◌≤◌, ◌+◌, ◌-◌, drop, length, map}
use Rattle.std.specs.Prelude.{codes}
use Rattle.sva_race_texts.specs.Words.{pieces}
use Rattle.sva_race_texts.proofs.Lists.{said}
use Rattle.sva_race_texts.specs.Conditions.{each_from, literal_of, literals_of}
use Rattle.sva_race_texts.specs.Seen.{line_seen, literal_seen}
use Rattle.sva_race_texts.proofs.claims.read_literals.Given as goal

-- the pieces that are left, behind the literals so far, give what all words give
abbrev pub invariant-loop-count : goal.invariant-loop-count
invariant-loop-count l = record {
  read : each_from (literal_of l.config l.names (map line_seen l.lines)) (l.at + l.start) (map literal_seen l.literals.items)
      (pieces (codes "and") (drop l.start (said l.words)))
      ≡ literals_of l.config l.names (map line_seen l.lines) l.at (said l.words);
  within : l.start ≤ length l.words;
}

-- what is left gets shorter
abbrev pub decreases-loop-count : goal.decreases-loop-count
decreases-loop-count l = length l.words - l.start
