use Rattle.std.proofs.Common.{◌≡◌, ◌++◌, drop, map}
use Rattle.sva_lines.specs.Devices.{use_lines}
use Rattle.sva_lines.specs.Pieces.{rows}
use Rattle.sva_parts_by_labels.specs.Device.{slot_seen}
use Rattle.sva_lines.proofs.devices.put_uses.Given as goal

-- what was said and what is left make the whole
abbrev pub invariant-loop-slot : goal.invariant-loop-slot
invariant-loop-slot l =
    l.out.items ++ rows (use_lines l.endpoint) l.slot (map slot_seen (drop l.slot l.slots))
    ≡ l.initial.out.items ++ rows (use_lines l.endpoint) 0 (map slot_seen l.slots)
