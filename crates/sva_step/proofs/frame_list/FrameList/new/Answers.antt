use Rattle.std.proofs.Common.{refl, arith}
use Rattle.sva_step.proofs.frame_list.FrameList.new.Goals as goal

pub invariant_of-result : goal.invariant_of-result
invariant_of-result c = (omega arith, refl, refl)

pub returns : goal.returns
returns c = refl
