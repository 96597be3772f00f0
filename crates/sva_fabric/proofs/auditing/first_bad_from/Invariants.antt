use Rattle.std.proofs.Common.{◌≡◌, ◌+◌, ℕ, drop}
use Rattle.sva_fabric.specs.Audits.{EachStands, IsFirstBadOf}
use Rattle.sva_fabric.specs.Once.{AllRise}
use Rattle.sva_fabric.proofs.auditing.first_bad_from.Given as goal

-- what holds of the ports that are left gives what holds of all
abbrev pub invariant-loop-port : goal.invariant-loop-port
invariant-loop-port g l =
    (EachStands l.journaled.entries l.number (drop l.port-index l.ports) → EachStands l.journaled.entries l.fn.first l.ports)
    × ((port place : ℕ) → IsFirstBadOf l.journaled.entries l.number (drop l.port-index l.ports) port place
    → IsFirstBadOf l.journaled.entries l.fn.first l.ports port place)
    × (AllRise (drop l.port-index l.ports) → AllRise l.ports)
    × (l.number ≡ l.fn.first + l.port-index)
