use Rattle.std.proofs.Common.{◌≡◌, ◌++◌, drop, map}
use Rattle.sva_driver_words.specs.Awaits.{line_seen}
use Rattle.sva_driver_texts.specs.Ways.{ways_from}
use Rattle.sva_driver_texts.proofs.ways.ways_by.Given as goal

-- the ways so far, with those of the lines that are left
abbrev pub invariant-loop-place : goal.invariant-loop-place
invariant-loop-place l =
    l.list.items ++ ways_from (map (λ own. own.items) l.threads) l.place (map line_seen (drop l.place l.lines))
    ≡ ways_from (map (λ own. own.items) l.threads) 0 (map line_seen l.lines)
