use Rattle.std.proofs.Common.{◌≡◌, drop}
use Rattle.sva_script.specs.Near.{near_among}
use Rattle.sva_race_texts.proofs.Lists.{said}
use Rattle.sva_race_texts.proofs.faults.first_near.Given as goal

-- of those that are left the first is near that is of all
abbrev pub invariant-loop-known : goal.invariant-loop-known
invariant-loop-known l = near_among (said (drop l.known-index l.words)) l.word ≡ near_among (said l.words) l.word
