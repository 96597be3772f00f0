use Rattle.std.proofs.Common.{◌≡◌, drop, map}
use Rattle.sva_driver_words.specs.Awaits.{line_seen}
use Rattle.sva_driver_texts.specs.Plans.{pages_by, pages_set}
use Rattle.sva_driver_texts.proofs.plans.pages_set.Given as goal

-- the pages so far, with those of the lines that are left
abbrev pub invariant-loop-line : goal.invariant-loop-line
invariant-loop-line l = pages_by l.pages.items (map line_seen (drop l.line-index l.lines)) ≡ pages_set (map line_seen l.lines)
