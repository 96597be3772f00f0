use Rattle.std.proofs.Common.{◌≡◌, ◌++◌, flat_map, map, take}
use Rattle.sva_iommu.specs.Seen.{descriptor_seen}
use Rattle.sva_lines.specs.Units.{queued_line}
use Rattle.sva_lines.proofs.units.put_queue.Given as goal

abbrev pub invariant-loop-descriptor : goal.invariant-loop-descriptor
invariant-loop-descriptor l =
    l.out.items ≡ l.initial.out.items ++ flat_map (queued_line l.unit) (map descriptor_seen (take l.descriptor-index l.queue))
