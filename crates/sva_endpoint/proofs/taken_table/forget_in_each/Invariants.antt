use Rattle.std.proofs.Common.{◌≡◌, ◌++◌, map, take, drop}
use Rattle.sva_endpoint.specs.Taken.{without_note}
use Rattle.sva_endpoint.proofs.taken_table.forget_in_each.Given as goal

abbrev pub invariant-loop-place : goal.invariant-loop-place
invariant-loop-place l = l.places ≡ map (without_note l.slot) (take l.place-index l.initial.places) ++ drop l.place-index l.initial.places
