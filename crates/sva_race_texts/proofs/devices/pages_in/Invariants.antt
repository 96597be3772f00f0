use Rattle.std.proofs.Common.{◌≡◌, ◌≤◌, ◌++◌, drop, length}
use Rattle.sva_race_texts.proofs.Lists.{said}
use Rattle.sva_race_texts.specs.Devices.{pages_in}
use Rattle.sva_race_texts.proofs.devices.pages_in.Given as goal

-- the pages so far, with those that the words begin with that are left, are all
abbrev pub invariant-loop-place : goal.invariant-loop-place
invariant-loop-place l = record {
  pages : l.list.items ++ pages_in (said (drop l.place l.words)) ≡ pages_in (said l.words);
  count : length l.list.items ≡ l.place;
  within : l.place ≤ length l.words;
}
