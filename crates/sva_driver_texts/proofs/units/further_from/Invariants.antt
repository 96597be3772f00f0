use Rattle.std.proofs.Common.{◌≡◌, drop}
use Rattle.sva_race_texts.proofs.Lists.{said}
use Rattle.sva_driver_texts.specs.Units.{further_from}
use Rattle.sva_driver_texts.proofs.units.further_from.Given as goal

-- the words that are left give what all give
abbrev pub invariant-loop-at : goal.invariant-loop-at
invariant-loop-at l =
    further_from l.config l.first l.at l.units.items (drop l.at (said l.words)) (said l.words)
    ≡ further_from l.config l.first 2 l.fn.own.items (drop 2 (said l.words)) (said l.words)
