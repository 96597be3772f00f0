use Rattle.std.proofs.Common.{◌≡◌, ◌++◌, drop, map}
use Rattle.sva_lines.specs.Devices.{tag_lines}
use Rattle.sva_lines.specs.Pieces.{rows}
use Rattle.sva_parts_by_labels.specs.Device.{tag_seen}
use Rattle.sva_lines.proofs.devices.put_tags.Given as goal

-- what was said and what is left make the whole
abbrev pub invariant-loop-tag : goal.invariant-loop-tag
invariant-loop-tag l =
    l.out.items ++ rows (tag_lines l.endpoint) l.tag (map tag_seen (drop l.tag l.tags))
    ≡ l.initial.out.items ++ rows (tag_lines l.endpoint) 0 (map tag_seen l.tags)
