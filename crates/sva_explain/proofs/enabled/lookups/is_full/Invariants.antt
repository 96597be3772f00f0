use Rattle.std.proofs.Common.{◌≡◌, drop, map, is_none, option_map}
use Rattle.sva_labels.specs.Finding.{lowest_label}
use Rattle.sva_iommu.specs.Seen.{busy_seen}
use Rattle.sva_explain.proofs.enabled.lookups.is_full.Given as goal

-- none so far is free
abbrev pub invariant-loop-place : goal.invariant-loop-place
invariant-loop-place l =
    is_none (lowest_label (map (option_map busy_seen) (drop l.place-index l.unit.busy.items)))
    ≡ is_none (lowest_label (map (option_map busy_seen) l.unit.busy.items))
