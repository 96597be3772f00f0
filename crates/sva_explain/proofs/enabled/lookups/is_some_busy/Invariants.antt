use Rattle.std.proofs.Common.{◌≡◌, drop, map, is_some, option_map}
use Rattle.std.specs.List.{list_any}
use Rattle.sva_iommu.specs.Seen.{busy_seen}
use Rattle.sva_explain.proofs.enabled.lookups.is_some_busy.Given as goal

-- none so far is busy
abbrev pub invariant-loop-place : goal.invariant-loop-place
invariant-loop-place l =
    list_any is_some (map (option_map busy_seen) (drop l.place-index l.unit.busy.items)) ≡ list_any is_some (map (option_map busy_seen) l.unit.busy.items)
