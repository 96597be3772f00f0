use Rattle.std.proofs.Common.{length, ap}
use Rattle.sva_step.proofs.frame_list.FrameList.len.Goals as goal

pub returns-clause-exact : goal.returns-clause-exact
returns-clause-exact c = ap length c.as_slice.ensures.exact

pub returns-clause-most : goal.returns-clause-most
returns-clause-most c = c.as_slice.ensures.most
