use Rattle.std.proofs.Common.{◌≡◌, drop, map}
use Rattle.sva_race_texts.specs.Seen.{line_seen}
use Rattle.sva_race_texts.specs.Devices.{named_pages, pages_from}
use Rattle.sva_race_texts.proofs.pages.named_pages.Given as goal

-- the lines that are left, behind the pages so far, give what all lines give
abbrev pub invariant-loop-place : goal.invariant-loop-place
invariant-loop-place l = pages_from l.pages.items (map line_seen (drop l.place l.lines)) ≡ named_pages (map line_seen l.lines)
