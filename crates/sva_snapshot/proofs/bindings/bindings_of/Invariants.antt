use Rattle.std.proofs.Common.{◌≡◌, map, take}
use Rattle.sva_parts_by_labels.specs.Bindings.{binding_seen}
use Rattle.sva_snapshot.specs.Shown.{binding_shown}
use Rattle.sva_snapshot.proofs.bindings.bindings_of.Given as goal

abbrev pub invariant-loop-place : goal.invariant-loop-place
invariant-loop-place l = map binding_shown l.bindings.items ≡ map binding_seen (take l.place-index l.places)
