use Rattle.std.proofs.Common.{◌≡◌, map, replicate, None}
use Rattle.sva_race_texts.specs.Devices.{line_if}
use Rattle.sva_race_texts.proofs.readings.no_devices.Given as goal

abbrev pub invariant-loop-place : goal.invariant-loop-place
invariant-loop-place l = map line_if l.list.items ≡ replicate l._place None
