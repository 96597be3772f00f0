use Rattle.sva_step.proofs.frame_list.FrameList.as_slice.Goals as goal

pub shared_ref_as_front-result : goal.shared_ref_as_front-result
shared_ref_as_front-result c = c.self.invariant.0

pub returns-clause-exact : goal.returns-clause-exact
returns-clause-exact c = c.self.view_is
