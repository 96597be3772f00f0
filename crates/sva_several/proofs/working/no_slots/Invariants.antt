use Rattle.std.proofs.Common.{◌≡◌, None, replicate}
use Rattle.sva_several.proofs.working.no_slots.Given as goal

abbrev pub invariant-loop-place : goal.invariant-loop-place
invariant-loop-place l = l.slots.items ≡ replicate l._place None
