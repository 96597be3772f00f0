use Rattle.std.proofs.Common.{◌≡◌, drop}
use Rattle.sva_fabric.specs.LoopTokens.{has_lease}
use Rattle.sva_fabric.proofs.loops.hosting.lease_of.Given as goal

-- the leases so far are others
abbrev pub invariant-loop-place : goal.invariant-loop-place
invariant-loop-place g l = has_lease l.binding (drop l.place l.leases) ≡ has_lease l.binding l.leases
