use Rattle.std.proofs.Common.{◌≡◌, length}
use Rattle.sva_script.specs.Near.{is_one_off}
use Rattle.sva_script.proofs.nearest.is_one_off.Given as goal

-- the words differ as what is left of them does
abbrev pub invariant-loop-rest : goal.invariant-loop-rest
invariant-loop-rest l = is_one_off l.rest l.other_rest ≡ is_one_off l.word l.other

-- what is left gets shorter
abbrev pub decreases-loop-rest : goal.decreases-loop-rest
decreases-loop-rest l = length l.rest
