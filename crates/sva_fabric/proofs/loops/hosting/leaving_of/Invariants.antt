use Rattle.std.proofs.Common.{◌≡◌, drop}
use Rattle.sva_fabric.specs.LoopTokens.{has_leaving}
use Rattle.sva_fabric.proofs.loops.hosting.leaving_of.Given as goal

-- the leavings so far are others
abbrev pub invariant-loop-place : goal.invariant-loop-place
invariant-loop-place g l = has_leaving l.binding (drop l.place l.leavings) ≡ has_leaving l.binding l.leavings
