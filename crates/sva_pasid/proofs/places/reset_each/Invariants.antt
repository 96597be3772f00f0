use Rattle.std.proofs.Common.{◌≡◌, ◌++◌, map, take, drop}
use Rattle.sva_pasid.specs.Places.{reset_at}
use Rattle.sva_pasid.proofs.places.reset_each.Given as goal

abbrev pub invariant-loop-place : goal.invariant-loop-place
invariant-loop-place l = l.places ≡ map (reset_at l.endpoint) (take l.place-index l.initial.places) ++ drop l.place-index l.initial.places
