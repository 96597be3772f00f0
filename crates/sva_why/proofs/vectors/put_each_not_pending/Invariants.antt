use Rattle.std.proofs.Common.{◌≡◌, ◌++◌, drop, map, option_map}
use Rattle.sva_lines.specs.Pieces.{rows}
use Rattle.sva_parts_by_labels.specs.Device.{taken_seen}
use Rattle.sva_why.specs.Vectors.{not_pending_if}
use Rattle.sva_snapshot.specs.Shown.{endpoint_shown}
use Rattle.sva_why.proofs.vectors.put_each_not_pending.Given as goal

-- what was said and what is left make the whole
abbrev pub invariant-loop-itag : goal.invariant-loop-itag
invariant-loop-itag l =
    l.out.items ++ rows (not_pending_if l.snapshot l.endpoint (endpoint_shown l.part) l.vector) l.itag
    (map (option_map taken_seen) (drop l.itag l.part.device.taken.items))
    ≡ l.initial.out.items ++ rows (not_pending_if l.snapshot l.endpoint (endpoint_shown l.part) l.vector) 0
    (map (option_map taken_seen) l.part.device.taken.items)
