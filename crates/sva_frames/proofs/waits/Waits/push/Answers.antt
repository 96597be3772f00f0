use Rattle.std.proofs.Common.{None, arith}
use Rattle.std.proofs.lemmas.Option.{slice_get_within}
use Rattle.sva_frames.proofs.waits.Waits.push.Goals as goal

pub bounds-targets-unit : goal.bounds-targets-unit
bounds-targets-unit c = omega (arith, slice_get_within c.self.inside.targets c.args.unit None (rw c.self.view_is c.requires))

pub offset_bounds-targets-unit : goal.offset_bounds-targets-unit
offset_bounds-targets-unit c = omega (arith, slice_get_within c.self.inside.targets c.args.unit None (rw c.self.view_is c.requires))
