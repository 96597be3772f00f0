use Rattle.std.proofs.Common.{◌≡◌, take}
use Rattle.sva_snapshot.proofs.units.descriptors_of.Given as goal

abbrev pub invariant-loop-place : goal.invariant-loop-place
invariant-loop-place l = l.descriptors.items ≡ take l.place l.unit.descriptors
