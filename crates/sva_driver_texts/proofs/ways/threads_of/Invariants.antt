use Rattle.std.proofs.Common.{◌≡◌, drop, map}
use Rattle.sva_driver_words.specs.Awaits.{line_seen}
use Rattle.sva_driver_texts.specs.Ways.{threads_by, threads_of}
use Rattle.sva_driver_texts.proofs.ways.threads_of.Given as goal

-- the threads so far, with those of the lines that are left
abbrev pub invariant-loop-line : goal.invariant-loop-line
invariant-loop-line l =
    threads_by (map (λ own. own.items) l.threads.items) (map line_seen (drop l.line-index l.lines)) ≡ threads_of (map line_seen l.lines)
