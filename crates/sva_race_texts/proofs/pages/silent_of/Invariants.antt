use Rattle.std.proofs.Common.{◌≡◌, map, take}
use Rattle.sva_race_texts.specs.Devices.{line_if, may_be_silent}
use Rattle.sva_race_texts.proofs.pages.silent_of.Given as goal

abbrev pub invariant-loop-place : goal.invariant-loop-place
invariant-loop-place l = l.silent.items ≡ map (λ line. may_be_silent (line_if line)) (take l.place l.lines)
