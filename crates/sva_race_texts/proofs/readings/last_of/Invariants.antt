use Rattle.std.proofs.Common.{◌≡◌, drop}
use Rattle.sva_race_texts.specs.Readings.{last_from, last_of}
use Rattle.sva_race_texts.proofs.ListLemmas.{own}
use Rattle.sva_race_texts.proofs.readings.last_of.Given as goal

-- the last place among those that are left, or else the one so far, is the last of all
abbrev pub invariant-loop-place : goal.invariant-loop-place
invariant-loop-place l = last_from l.place l.found l.thread (own (drop l.place l.threads)) ≡ last_of l.thread (own l.threads)
