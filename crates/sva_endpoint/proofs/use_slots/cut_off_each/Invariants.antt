use Rattle.std.proofs.Common.{◌≡◌, ◌++◌, map, take, drop}
use Rattle.sva_endpoint.specs.UseSlots.{cut_off}
use Rattle.sva_endpoint.proofs.use_slots.cut_off_each.Given as goal

abbrev pub invariant-loop-slot : goal.invariant-loop-slot
invariant-loop-slot l = l.slots ≡ map cut_off (take l.slot-index l.initial.slots) ++ drop l.slot-index l.initial.slots
