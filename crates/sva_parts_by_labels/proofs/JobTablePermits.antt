-- A request may be filed, by what the definitions by labels say of its group.
use Rattle.std.proofs.Common.{◌≡◌, ap, sym, ◌∙◌, ◌+◌, ◌<◌, ◌^◌, arith}
use Rattle.std.specs.Prelude.{MatchOption, unwrap_or, Option, Some, None, length, find}
use Rattle.std.proofs.lemmas.List.{length-map}
use Rattle.sva_labels.specs.Moves.{is_begun}
use Rattle.sva_labels.specs.Outcomes.{asks_of}
use Rattle.sva_prq.specs.Groups.{OpenGroup, is_collecting, new_group, unfinished_asks}
use Rattle.sva_prq.specs.Job.{ask_seen}
use Rattle.sva_parts_by_labels.specs.JobTableLaws.{FilingIsPermitted}
use Rattle.sva_parts_by_labels.proofs.JobTableGroups.{asks_seen}

pub filing_is_permitted : FilingIsPermitted
filing_is_permitted s p unit binding request h room groups next few =
    record { group = go (find (is_collecting unit binding request.index) s.groups.groups) fewer; job = λ last. room }
  where
    same : length (unfinished_asks unit binding request.index s.groups.groups) ≡ length (asks_of (find (is_begun binding request.index) p.host_groups))
    same =
        sym (length-map (unfinished_asks unit binding request.index s.groups.groups) ask_seen)
        ∙ ap length (asks_seen s.groups.next unit binding request s.groups.groups)
        ∙ ap (λ l. length (asks_of (find (is_begun binding request.index) l))) (sym h)

    fewer : length (unfinished_asks unit binding request.index s.groups.groups) < 32
    fewer = omega (arith, same, few)

    go : (o : Option OpenGroup) → length (unwrap_or o (new_group 0 unit binding request.index)).asks < 32
        → MatchOption o ((0 < s.groups.room) × (s.groups.next + 1 < 2 ^ 64)) (λ g. length g.asks < 32)
    go None l = (groups, next)
    go (Some g) l = l
