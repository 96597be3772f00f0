use Rattle.std.proofs.Common.{arith}
use Rattle.sva_itags.proofs.counts.Count.field.Goals as goal

pub returns-then-self-eq8-clause-below : goal.returns-then-self-eq8-clause-below
returns-then-self-eq8-clause-below c = omega arith
