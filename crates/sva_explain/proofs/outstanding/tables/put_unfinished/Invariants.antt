use Rattle.std.proofs.Common.{◌≡◌, ◌++◌, drop, map}
use Rattle.sva_lines.specs.Pieces.{rows}
use Rattle.sva_parts_by_labels.specs.Device.{group_seen}
use Rattle.sva_explain.specs.Tables.{unfinished_if}
use Rattle.sva_snapshot.specs.Shown.{endpoint_shown}
use Rattle.sva_explain.proofs.outstanding.tables.put_unfinished.Given as goal

-- what was said and what is left make the whole
abbrev pub invariant-loop-index : goal.invariant-loop-index
invariant-loop-index l =
    l.out.items ++ rows (unfinished_if l.level l.snapshot l.endpoint (endpoint_shown l.part) l.pasid) l.index
    (map group_seen (drop l.index l.part.device.groups.items))
    ≡ l.initial.out.items ++ rows (unfinished_if l.level l.snapshot l.endpoint (endpoint_shown l.part) l.pasid) 0
    (map group_seen l.part.device.groups.items)
