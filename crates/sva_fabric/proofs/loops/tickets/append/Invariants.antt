use Rattle.std.proofs.Common.{◌≡◌, ◌+◌, vec_len, vec_capacity}
use Rattle.sva_fabric.proofs.loops.tickets.append.Given as goal

abbrev pub invariant-loop-ticket : goal.invariant-loop-ticket
invariant-loop-ticket g l = (vec_len l.into + vec_len l.from ≡ vec_len l.fn.into + vec_len l.fn.from) × (vec_capacity l.into ≡ vec_capacity l.fn.into)

abbrev pub decreases-loop-ticket : goal.decreases-loop-ticket
decreases-loop-ticket g l = goal.left-loop-ticket g l
