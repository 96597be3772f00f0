use Rattle.std.proofs.Common.{◌≡◌, map, take}
use Rattle.sva_driver_words.specs.Awaits.{line_seen}
use Rattle.sva_driver_texts.specs.Ways.{first_of}
use Rattle.sva_driver_texts.proofs.ways.firsts_of.Given as goal

abbrev pub invariant-loop-thread : goal.invariant-loop-thread
invariant-loop-thread l =
    l.firsts.items ≡ map (λ own. first_of (map line_seen l.lines) own.items) (take l.thread-index l.threads)
