use Rattle.std.proofs.Common.{◌≡◌, ◌++◌, drop, map, option_map}
use Rattle.sva_lines.specs.Pieces.{rows}
use Rattle.sva_snapshot.specs.Shown.{endpoint_shown}
use Rattle.sva_explain.specs.Units.{busy_if}
use Rattle.sva_iommu.specs.Seen.{busy_seen}
use Rattle.sva_explain.proofs.blockers.itags.put_busy_itags.Given as goal

-- what was said and what is left make the whole
abbrev pub invariant-loop-itag : goal.invariant-loop-itag
invariant-loop-itag l =
    l.out.items ++ rows (busy_if l.level l.snapshot l.unit (endpoint_shown l.part)) l.itag (map (option_map busy_seen) (drop l.itag l.part.unit.busy.items))
    ≡ l.initial.out.items ++ rows (busy_if l.level l.snapshot l.unit (endpoint_shown l.part)) 0 (map (option_map busy_seen) l.part.unit.busy.items)
