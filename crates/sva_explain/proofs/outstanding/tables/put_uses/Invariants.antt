use Rattle.std.proofs.Common.{◌≡◌, ◌++◌, drop, map}
use Rattle.sva_lines.specs.Pieces.{rows}
use Rattle.sva_parts_by_labels.specs.Device.{slot_seen}
use Rattle.sva_explain.specs.Tables.{use_if}
use Rattle.sva_explain.proofs.outstanding.tables.put_uses.Given as goal

-- what was said and what is left make the whole
abbrev pub invariant-loop-slot : goal.invariant-loop-slot
invariant-loop-slot l =
    l.out.items ++ rows (use_if l.level l.snapshot l.endpoint l.pasid) l.slot (map slot_seen (drop l.slot l.part.device.slots.items))
    ≡ l.initial.out.items ++ rows (use_if l.level l.snapshot l.endpoint l.pasid) 0 (map slot_seen l.part.device.slots.items)
