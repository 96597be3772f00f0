use Rattle.std.proofs.Common.{◌≡◌, ◌++◌, map, take, drop}
use Rattle.sva_endpoint.specs.RequestTags.{doomed_by}
use Rattle.sva_endpoint.proofs.request_tags.doom_each.Given as goal

abbrev pub invariant-loop-place : goal.invariant-loop-place
invariant-loop-place l = l.places ≡ map (doomed_by l.invalidation) (take l.place-index l.initial.places) ++ drop l.place-index l.initial.places
