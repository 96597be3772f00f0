use Rattle.std.proofs.Common.{◌≡◌, ◌+◌, length}
use Rattle.sva_fabric.specs.Audits.{calls_of}
use Rattle.sva_fabric.proofs.gathering.gather_row.Given as goal

-- what was gathered and what is left are all
abbrev pub invariant-loop-port : goal.invariant-loop-port
invariant-loop-port g l =
    (l.all.parts + length l.ports.items ≡ l.fn.all.parts + length l.fn.ports.items)
    × (l.all.amount + calls_of l.ports.items ≡ l.fn.all.amount + calls_of l.fn.ports.items)

abbrev pub decreases-loop-port : goal.decreases-loop-port
decreases-loop-port g l = goal.left-loop-port g l
