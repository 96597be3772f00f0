use Rattle.std.proofs.Common.{◌≡◌, ◌-◌, drop, length, map}
use Rattle.std.specs.List.{fold}
use Rattle.std.specs.Prelude.{codes}
use Rattle.sva_race_texts.specs.Words.{pieces}
use Rattle.sva_race_texts.proofs.Lists.{said}
use Rattle.sva_race_texts.specs.Seen.{line_seen}
use Rattle.sva_race_texts.specs.Literals.{with_all, with_condition}
use Rattle.sva_race_texts.specs.Readings.{literals_seen}
use Rattle.sva_race_texts.proofs.literals.add_condition.Given as goal

-- what is asked for the pieces that are left, behind those so far, is what is asked for all
abbrev pub invariant-loop-count : goal.invariant-loop-count
invariant-loop-count l =
    fold (with_all l.config l.names (map line_seen l.lines) l.line l.is_of_ends) (literals_seen l.own)
    (pieces (codes "or") (drop l.start (said l.words)))
    ≡ with_condition l.config l.names (map line_seen l.lines) l.line l.is_of_ends (literals_seen l.initial.own) (said l.words)

-- what is left gets shorter
abbrev pub decreases-loop-count : goal.decreases-loop-count
decreases-loop-count l = length l.words - l.start
