use Rattle.std.proofs.Common.{sym, arith}
use Rattle.sva_pasid.proofs.BearerLemmas.{slot-above}
use Rattle.sva_pasid.proofs.bearers.bearer_in.Goals as goal

pub returns-then-pasid-gt-PASIDS : goal.returns-then-pasid-gt-PASIDS
returns-then-pasid-gt-PASIDS c = sym (slot-above c.args.pasid c.args.bearers.now (omega arith))
