use Rattle.std.proofs.Common.{◌≡◌, drop, map}
use Rattle.sva_driver_words.specs.Awaits.{line_seen}
use Rattle.sva_driver_texts.specs.Ways.{first_from, is_on_way}
use Rattle.sva_driver_texts.proofs.ways.first_on_way.Given as goal

-- the first one is one of those that are left
abbrev pub invariant-loop-place : goal.invariant-loop-place
invariant-loop-place l =
    first_from (is_on_way l.thread l.blocks) l.place (map line_seen (drop l.place l.lines))
    ≡ first_from (is_on_way l.thread l.blocks) l.from (map line_seen (drop l.from l.lines))
