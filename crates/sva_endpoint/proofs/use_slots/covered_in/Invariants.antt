use Rattle.std.proofs.Common.{◌≡◌, map, take, length}
use Rattle.sva_endpoint.specs.UseSlots.{runs_covered}
use Rattle.sva_endpoint.proofs.use_slots.covered_in.Given as goal

abbrev pub invariant-loop-slot : goal.invariant-loop-slot
invariant-loop-slot l = (length l.covered ≡ 16) × (take l.slot l.covered ≡ map (runs_covered l.invalidation) (take l.slot l.slots))
