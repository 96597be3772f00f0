use Rattle.std.proofs.Common.{◌≡◌, ◌+◌, drop}
use Rattle.sva_fabric.specs.Audits.{calls_of}
use Rattle.sva_fabric.proofs.auditing.left_of_all.Given as goal

-- the calls of the ports so far were taken away
abbrev pub invariant-loop-port : goal.invariant-loop-port
invariant-loop-port g l = l.left + calls_of l.ports ≡ l.fn.calls + calls_of (drop l.port-index l.ports)
