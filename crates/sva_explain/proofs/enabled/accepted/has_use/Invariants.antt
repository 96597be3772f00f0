use Rattle.std.proofs.Common.{◌≡◌, drop, map}
use Rattle.std.specs.List.{list_any}
use Rattle.sva_labels.specs.Finding.{is_use_of}
use Rattle.sva_parts_by_labels.specs.Device.{slot_seen}
use Rattle.sva_explain.proofs.enabled.accepted.has_use.Given as goal

-- none so far is of the PASID
abbrev pub invariant-loop-place : goal.invariant-loop-place
invariant-loop-place l =
    list_any (is_use_of l.pasid) (map slot_seen (drop l.place-index l.slots)) ≡ list_any (is_use_of l.pasid) (map slot_seen l.slots)
