use Rattle.std.proofs.Common.{◌≡◌, drop, map}
use Rattle.std.specs.List.{list_any}
use Rattle.sva_labels.specs.Finding.{is_request_of}
use Rattle.sva_parts_by_labels.specs.Device.{tag_seen}
use Rattle.sva_explain.proofs.enabled.accepted.has_request.Given as goal

-- none so far is of the PASID
abbrev pub invariant-loop-place : goal.invariant-loop-place
invariant-loop-place l =
    list_any (is_request_of l.pasid) (map tag_seen (drop l.place-index l.tags)) ≡ list_any (is_request_of l.pasid) (map tag_seen l.tags)
