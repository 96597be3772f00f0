use Rattle.std.proofs.Common.{◌≡◌, drop, map}
use Rattle.std.specs.List.{list_any}
use Rattle.sva_parts_by_labels.specs.Device.{group_seen}
use Rattle.sva_explain.specs.Tables.{is_due}
use Rattle.sva_explain.proofs.outstanding.credits.is_some_due.Given as goal

-- none so far is due
abbrev pub invariant-loop-place : goal.invariant-loop-place
invariant-loop-place l =
    list_any is_due (map group_seen (drop l.place-index l.groups)) ≡ list_any is_due (map group_seen l.groups)
