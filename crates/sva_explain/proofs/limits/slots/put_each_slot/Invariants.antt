use Rattle.std.proofs.Common.{◌≡◌, ◌++◌, drop, map}
use Rattle.sva_explain.specs.Slots.{slot_if}
use Rattle.sva_lines.specs.Pieces.{rows}
use Rattle.sva_parts_by_labels.specs.Device.{slot_seen}
use Rattle.sva_explain.proofs.limits.slots.put_each_slot.Given as goal

-- what was said and what is left make the whole
abbrev pub invariant-loop-slot : goal.invariant-loop-slot
invariant-loop-slot l =
    l.out.items ++ rows (slot_if l.snapshot l.endpoint) l.slot (map slot_seen (drop l.slot l.part.device.slots.items))
    ≡ l.initial.out.items ++ rows (slot_if l.snapshot l.endpoint) 0 (map slot_seen l.part.device.slots.items)
