use Rattle.std.proofs.Common.{◌≡◌, drop}
use Rattle.sva_race_texts.specs.Threads.{no_verdicts, verdicts_from}
use Rattle.sva_race_texts.proofs.Lists.{said}
use Rattle.sva_race_texts.proofs.threads.verdicts_of.Given as goal

-- the words that are left give what all give
abbrev pub invariant-loop-place : goal.invariant-loop-place
invariant-loop-place l = verdicts_from l.place l.verdicts (said (drop l.place l.words)) ≡ verdicts_from 1 no_verdicts (said (drop 1 l.words))
