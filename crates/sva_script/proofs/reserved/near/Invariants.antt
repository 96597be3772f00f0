use Rattle.std.proofs.Common.{◌≡◌, drop}
use Rattle.sva_script.specs.Near.{near_among}
use Rattle.sva_script.proofs.NearWordLemmas.{said}
use Rattle.sva_script.proofs.reserved.near.Given as goal

-- of those that are left the first is near that is of all
abbrev pub invariant-loop-reserved : goal.invariant-loop-reserved
invariant-loop-reserved l = near_among (said (drop l.reserved-index l.words)) l.word ≡ near_among (said l.words) l.word
