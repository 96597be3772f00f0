use Rattle.sva_address_spaces.specs.Asked.{asks_seen}
use Rattle.sva_address_spaces.proofs.Mapping.{AreMapped}
use Rattle.sva_address_spaces.proofs.asked.map_all.Given as goal

-- so many pages are mapped
abbrev pub invariant-loop-number : goal.invariant-loop-number
invariant-loop-number l = AreMapped (asks_seen l.asks) l.pages.items l.fn.space l.fn.pool l.number l.space l.pool
