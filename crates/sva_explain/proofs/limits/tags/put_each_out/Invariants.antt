use Rattle.std.proofs.Common.{◌≡◌, ◌++◌, drop, map}
use Rattle.sva_explain.specs.Tags.{out_if}
use Rattle.sva_lines.specs.Pieces.{rows}
use Rattle.sva_parts_by_labels.specs.Device.{tag_seen}
use Rattle.sva_snapshot.specs.Shown.{endpoint_shown}
use Rattle.sva_explain.proofs.limits.tags.put_each_out.Given as goal

-- what was said and what is left make the whole
abbrev pub invariant-loop-tag : goal.invariant-loop-tag
invariant-loop-tag l =
    l.out.items ++ rows (out_if l.snapshot l.endpoint (endpoint_shown l.part)) l.tag (map tag_seen (drop l.tag l.part.device.tags.items))
    ≡ l.initial.out.items ++ rows (out_if l.snapshot l.endpoint (endpoint_shown l.part)) 0 (map tag_seen l.part.device.tags.items)
