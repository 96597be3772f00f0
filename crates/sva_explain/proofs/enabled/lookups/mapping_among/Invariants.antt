use Rattle.std.proofs.Common.{◌≡◌, drop}
use Rattle.sva_labels.specs.Places.{page_at}
use Rattle.sva_address_spaces.specs.Seen.{pages_seen}
use Rattle.sva_explain.proofs.enabled.lookups.mapping_among.Given as goal

-- none so far is at the page
abbrev pub invariant-loop-mapping : goal.invariant-loop-mapping
invariant-loop-mapping l =
    page_at (pages_seen (drop l.mapping-index l.pages)) l.page ≡ page_at (pages_seen l.pages) l.page
