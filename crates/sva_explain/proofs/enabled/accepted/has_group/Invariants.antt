use Rattle.std.proofs.Common.{◌≡◌, drop, map}
use Rattle.std.specs.List.{list_any}
use Rattle.sva_labels.specs.Finding.{has_unfinished_group}
use Rattle.sva_parts_by_labels.specs.Device.{group_seen}
use Rattle.sva_explain.proofs.enabled.accepted.has_group.Given as goal

-- none so far is of the PASID
abbrev pub invariant-loop-place : goal.invariant-loop-place
invariant-loop-place l =
    list_any (has_unfinished_group l.pasid) (map group_seen (drop l.place-index l.groups)) ≡ list_any (has_unfinished_group l.pasid) (map group_seen l.groups)
