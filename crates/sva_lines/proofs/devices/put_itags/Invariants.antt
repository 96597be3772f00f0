use Rattle.std.proofs.Common.{◌≡◌, ◌++◌, drop, map, option_map}
use Rattle.sva_lines.specs.Devices.{taken_lines}
use Rattle.sva_lines.specs.Pieces.{rows}
use Rattle.sva_parts_by_labels.specs.Device.{taken_seen}
use Rattle.sva_lines.proofs.devices.put_itags.Given as goal

-- what was said and what is left make the whole
abbrev pub invariant-loop-itag : goal.invariant-loop-itag
invariant-loop-itag l =
    l.out.items ++ rows (taken_lines l.endpoint) l.itag (map (option_map taken_seen) (drop l.itag l.taken))
    ≡ l.initial.out.items ++ rows (taken_lines l.endpoint) 0 (map (option_map taken_seen) l.taken)
