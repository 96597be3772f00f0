use Rattle.std.proofs.Common.{◌≡◌, flat_map, map, take}
use Rattle.sva_race_texts.specs.Devices.{count_seen}
use Rattle.sva_race_texts.proofs.CountLemmas.{of_claim}
use Rattle.sva_race_texts.proofs.counts.counts_of.Given as goal

abbrev pub invariant-loop-place : goal.invariant-loop-place
invariant-loop-place l = map count_seen l.counts.items ≡ flat_map of_claim (take l.place l.claims)
