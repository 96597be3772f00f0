use Rattle.std.proofs.Common.{◌≡◌, ◌+◌, length}
use Rattle.sva_fabric.proofs.gathering.gather_leases.Given as goal

-- what was gathered and what is left are all
abbrev pub invariant-loop-lease : goal.invariant-loop-lease
invariant-loop-lease g l = l.held.amount + length l.leases.items ≡ l.fn.held.amount + length l.fn.leases.items

abbrev pub decreases-loop-lease : goal.decreases-loop-lease
decreases-loop-lease g l = goal.left-loop-lease g l
