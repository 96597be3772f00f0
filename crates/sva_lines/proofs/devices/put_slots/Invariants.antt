use Rattle.std.proofs.Common.{◌≡◌, ◌++◌, drop, false}
use Rattle.sva_lines.specs.Devices.{slot_texts}
use Rattle.sva_lines.specs.Pieces.{listed}
use Rattle.sva_lines.proofs.devices.put_slots.Given as goal

-- what was said and what is left make the whole
abbrev pub invariant-loop-slot : goal.invariant-loop-slot
invariant-loop-slot l =
    l.out.items ++ listed l.is_begun (slot_texts l.slot (drop l.slot l.slots)) ≡ l.initial.out.items ++ listed false (slot_texts 0 l.slots)
