use Rattle.std.proofs.Common.{◌≡◌, drop}
use Rattle.sva_race_texts.proofs.Lists.{said}
use Rattle.sva_driver_texts.specs.Devices.{pages_by, pages_from}
use Rattle.sva_driver_texts.proofs.devices.pages_from.Given as goal

-- the words that are left, behind the pages so far, give what all give
abbrev pub invariant-loop-place : goal.invariant-loop-place
invariant-loop-place l = pages_by l.place l.pages.items (drop l.place (said l.words)) (said l.words) ≡ pages_from l.at (said l.words)
