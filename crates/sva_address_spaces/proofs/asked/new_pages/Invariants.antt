use Rattle.std.proofs.Common.{◌≡◌, take}
use Rattle.sva_address_spaces.specs.Seen.{pages_seen}
use Rattle.sva_address_spaces.specs.Asked.{asks_seen}
use Rattle.sva_labels.specs.Replying.{new_among}
use Rattle.sva_address_spaces.proofs.asked.new_pages.Given as goal

-- those that the requests so far ask for
abbrev pub invariant-loop-ask : goal.invariant-loop-ask
invariant-loop-ask l = l.pages.items ≡ new_among (pages_seen l.space) (asks_seen (take l.ask-index l.asks))
