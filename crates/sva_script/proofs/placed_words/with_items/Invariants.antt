use Rattle.std.proofs.Common.{◌≡◌, ◌==◌, length}
use Rattle.std.specs.List.{slice_split}
use Rattle.sva_script.specs.Resolve.{with_items}
use Rattle.sva_script.proofs.placed_words.with_items.Given as goal

-- what is left has the items of all behind the vector so far
abbrev pub invariant-loop-item : goal.invariant-loop-item
invariant-loop-item l =
    with_items l.at l.names l.vector (slice_split (λ byte. byte == 44) l.rest)
    ≡ with_items l.at l.names 0 (slice_split (λ byte. byte == 44) l.list)

abbrev pub decreases-loop-item : goal.decreases-loop-item
decreases-loop-item l = length l.rest
