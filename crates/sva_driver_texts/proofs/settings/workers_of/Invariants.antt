use Rattle.std.proofs.Common.{◌≡◌, drop, true, false}
use Rattle.sva_race_texts.proofs.Lists.{said}
use Rattle.sva_driver_texts.specs.Devices.{codes_from}
use Rattle.sva_driver_texts.proofs.settings.workers_of.Given as goal

-- the words that are left give what all give
abbrev pub invariant-loop-at : goal.invariant-loop-at
invariant-loop-at l =
    codes_from l.at l.workers (drop l.at (said l.words)) (said l.words)
    ≡ codes_from 1 (record { are_there = true; answer = false; fail = false }) (drop 1 (said l.words)) (said l.words)
