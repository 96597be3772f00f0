use Rattle.std.proofs.Common.{◌≡◌, map, take}
use Rattle.sva_race_texts.specs.Devices.{has_of, has_seen, line_if}
use Rattle.sva_race_texts.proofs.pages.devices_of.Given as goal

abbrev pub invariant-loop-place : goal.invariant-loop-place
invariant-loop-place l = map has_seen l.devices.items ≡ map (λ line. has_of l.named (line_if line)) (take l.place l.lines)
