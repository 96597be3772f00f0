use Rattle.std.proofs.Common.{◌≡◌, ◌+◌, length}
use Rattle.sva_fabric.proofs.gathering.gather_tickets.Given as goal

-- what was gathered and what is left are all
abbrev pub invariant-loop-ticket : goal.invariant-loop-ticket
invariant-loop-ticket g l = l.used.amount + length l.tickets.items ≡ l.fn.used.amount + length l.fn.tickets.items

abbrev pub decreases-loop-ticket : goal.decreases-loop-ticket
decreases-loop-ticket g l = goal.left-loop-ticket g l
