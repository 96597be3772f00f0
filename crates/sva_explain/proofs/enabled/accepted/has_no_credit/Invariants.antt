use Rattle.std.proofs.Common.{◌≡◌, ◌+◌, ◌*◌, ◌≤◌, drop, map}
use Rattle.sva_labels.specs.Finding.{outstanding}
use Rattle.sva_parts_by_labels.specs.Device.{group_seen}
use Rattle.sva_explain.proofs.enabled.accepted.has_no_credit.Given as goal

-- what was sent so far and the rest make the whole
abbrev pub invariant-loop-place : goal.invariant-loop-place
invariant-loop-place l = record {
  whole : l.sent + outstanding (map group_seen (drop l.place-index l.groups)) ≡ outstanding (map group_seen l.groups);
  below : l.sent ≤ 256 * l.place-index;
}
