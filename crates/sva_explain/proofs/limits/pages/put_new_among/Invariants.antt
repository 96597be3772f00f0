use Rattle.std.proofs.Common.{◌≡◌, ◌++◌, flat_map, take}
use Rattle.sva_address_spaces.specs.Asked.{asks_seen}
use Rattle.sva_address_spaces.specs.Seen.{pages_seen}
use Rattle.sva_labels.specs.Replying.{new_among}
use Rattle.sva_explain.specs.Frames.{page_text}
use Rattle.sva_explain.proofs.limits.pages.put_new_among.Given as goal

-- those of the requests so far
abbrev pub invariant-loop-place : goal.invariant-loop-place
invariant-loop-place l =
    l.out.items ≡ l.initial.out.items ++ flat_map page_text (new_among (pages_seen l.pages) (asks_seen (take l.place l.asks)))
