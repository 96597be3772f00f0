use Rattle.std.proofs.Common.{◌≡◌, ◌+◌, length}
use Rattle.sva_fabric.proofs.gathering.gather_leavings.Given as goal

-- what was gathered and what is left are all
abbrev pub invariant-loop-leaving : goal.invariant-loop-leaving
invariant-loop-leaving g l = l.held.amount + length l.leavings.items ≡ l.fn.held.amount + length l.fn.leavings.items

abbrev pub decreases-loop-leaving : goal.decreases-loop-leaving
decreases-loop-leaving g l = goal.left-loop-leaving g l
