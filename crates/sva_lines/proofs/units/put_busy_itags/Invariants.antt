use Rattle.std.proofs.Common.{◌≡◌, ◌++◌, drop, map, option_map}
use Rattle.sva_iommu.specs.Seen.{busy_seen}
use Rattle.sva_lines.specs.Pieces.{rows}
use Rattle.sva_lines.specs.Units.{busy_lines}
use Rattle.sva_lines.proofs.units.put_busy_itags.Given as goal

-- what was said and what is left make the whole
abbrev pub invariant-loop-itag : goal.invariant-loop-itag
invariant-loop-itag l =
    l.out.items ++ rows (busy_lines l.unit) l.itag (map (option_map busy_seen) (drop l.itag l.busy))
    ≡ l.initial.out.items ++ rows (busy_lines l.unit) 0 (map (option_map busy_seen) l.busy)
