use Rattle.std.proofs.Common.{◌≡◌, ◌+◌, ◌≤◌, vec_len}
use Rattle.std.specs.Prelude.{vec_capacity}
use Rattle.sva_fabric.specs.Receipts.{new_ports_from}
use Rattle.sva_fabric.proofs.opening.row.Given as goal

-- the ports so far, room for the others, and a part for each
abbrev pub invariant-loop-index : goal.invariant-loop-index
invariant-loop-index g l =
    (l.ports.items ≡ new_ports_from l.first l.index)
    × (vec_len l.ports ≡ l.index)
    × (l.count ≤ vec_capacity l.ports)
    × (l.calls.parts + l.index ≡ l.fn.calls.parts)
    × (l.calls.amount ≡ 0)
