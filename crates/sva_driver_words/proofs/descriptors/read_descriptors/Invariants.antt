use Rattle.std.proofs.Common.{◌≡◌, ◌≤◌, ◌+◌, ◌-◌, drop, length, map}
use Rattle.std.specs.Prelude.{codes}
use Rattle.sva_race_texts.specs.Words.{pieces}
use Rattle.sva_race_texts.proofs.Lists.{said}
use Rattle.sva_driver_words.specs.Descriptors.{descriptor_at, descriptors_of, each_from, itself}
use Rattle.sva_driver_words.proofs.descriptors.read_descriptors.Given as goal

-- the pieces that are left, behind the lists so far, give what all words give
abbrev pub invariant-loop-count : goal.invariant-loop-count
invariant-loop-count l = record {
  read : each_from (descriptor_at l.units l.endpoint l.name) (l.at + l.start) (map itself l.list.items)
      (pieces (codes "+") (drop l.start (said l.words)))
      ≡ descriptors_of l.units l.endpoint l.name l.at (said l.words);
  within : l.start ≤ length l.words;
}

-- what is left gets shorter
abbrev pub decreases-loop-count : goal.decreases-loop-count
decreases-loop-count l = length l.words - l.start
