use Rattle.std.proofs.Common.{◌≡◌, ◌++◌, flat_map, take}
use Rattle.sva_address_spaces.specs.Seen.{pages_seen}
use Rattle.sva_lines.specs.Memory.{page_line}
use Rattle.sva_lines.proofs.memory.put_pages.Given as goal

abbrev pub invariant-loop-mapping : goal.invariant-loop-mapping
invariant-loop-mapping l = l.out.items ≡ l.initial.out.items ++ flat_map (page_line l.space) (pages_seen (take l.mapping-index l.pages))
