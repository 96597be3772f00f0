use Rattle.std.proofs.Common.{◌≡◌, false, replicate}
use Rattle.sva_driver_texts.proofs.opening.falses.Given as goal

abbrev pub invariant-loop-place : goal.invariant-loop-place
invariant-loop-place l = l.list.items ≡ replicate l._place false
