use Rattle.std.proofs.Common.{arith}
use Rattle.sva_frames.proofs.Tables.{not_found}
use Rattle.sva_frames.proofs.heads.place_of.Goals as goal

pub returns-clause-none : goal.returns-clause-none
returns-clause-none c = not_found c.args.pending.now c.args.cookie (λ place entry. c.loop-place.invariant place entry (omega arith))
