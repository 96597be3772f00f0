use Rattle.std.proofs.Common.{◌≡◌, ◌++◌, map, take, drop}
use Rattle.sva_endpoint.specs.Groups.{stale_of}
use Rattle.sva_endpoint.proofs.groups.make_each_stale.Given as goal

abbrev pub invariant-loop-place : goal.invariant-loop-place
invariant-loop-place l = l.places ≡ map (stale_of l.pasid) (take l.place-index l.initial.places) ++ drop l.place-index l.initial.places
