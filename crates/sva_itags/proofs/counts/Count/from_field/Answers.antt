use Rattle.std.proofs.Common.{arith}
use Rattle.sva_itags.proofs.counts.Count.from_field.Goals as goal

pub invariant_of-t-3 : goal.invariant_of-t-3
invariant_of-t-3 c = (omega arith, omega arith)
