use Rattle.std.proofs.Common.{◌≡◌, ◌++◌, flat_map, map, take}
use Rattle.sva_race_texts.specs.Devices.{count_seen}
use Rattle.sva_race_texts.proofs.CountLemmas.{of_literals}
use Rattle.sva_race_texts.proofs.counts.add_condition.Given as goal

abbrev pub invariant-loop-place : goal.invariant-loop-place
invariant-loop-place l = map count_seen l.counts.items ≡ map count_seen l.fn.counts.items ++ flat_map of_literals (take l.place l.condition)
