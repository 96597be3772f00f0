use Rattle.std.proofs.Common.{◌≡◌, ◌++◌, drop, map}
use Rattle.sva_lines.specs.Pieces.{rows}
use Rattle.sva_parts_by_labels.specs.Device.{tag_seen}
use Rattle.sva_explain.specs.Tables.{tag_if}
use Rattle.sva_snapshot.specs.Shown.{endpoint_shown}
use Rattle.sva_explain.proofs.outstanding.tables.put_tags.Given as goal

-- what was said and what is left make the whole
abbrev pub invariant-loop-tag : goal.invariant-loop-tag
invariant-loop-tag l =
    l.out.items ++ rows (tag_if l.level l.snapshot l.endpoint (endpoint_shown l.part) l.pasid) l.tag (map tag_seen (drop l.tag l.part.device.tags.items))
    ≡ l.initial.out.items ++ rows (tag_if l.level l.snapshot l.endpoint (endpoint_shown l.part) l.pasid) 0 (map tag_seen l.part.device.tags.items)
