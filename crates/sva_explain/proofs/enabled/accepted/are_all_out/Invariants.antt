use Rattle.std.proofs.Common.{◌≡◌, drop, map, is_none}
use Rattle.sva_labels.specs.Finding.{lowest_label}
use Rattle.sva_parts_by_labels.specs.Device.{tag_seen}
use Rattle.sva_explain.proofs.enabled.accepted.are_all_out.Given as goal

-- none so far is free
abbrev pub invariant-loop-place : goal.invariant-loop-place
invariant-loop-place l =
    is_none (lowest_label (map tag_seen (drop l.place-index l.tags))) ≡ is_none (lowest_label (map tag_seen l.tags))
