use Rattle.std.proofs.Common.{◌≡◌, ◌++◌, drop, map}
use Rattle.sva_lines.specs.Devices.{group_lines}
use Rattle.sva_lines.specs.Pieces.{rows}
use Rattle.sva_parts_by_labels.specs.Device.{group_seen}
use Rattle.sva_lines.proofs.devices.put_groups.Given as goal

-- what was said and what is left make the whole
abbrev pub invariant-loop-index : goal.invariant-loop-index
invariant-loop-index l =
    l.out.items ++ rows (group_lines l.endpoint) l.index (map group_seen (drop l.index l.groups))
    ≡ l.initial.out.items ++ rows (group_lines l.endpoint) 0 (map group_seen l.groups)
