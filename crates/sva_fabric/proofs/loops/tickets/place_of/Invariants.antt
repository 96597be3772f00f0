use Rattle.std.proofs.Common.{◌≡◌, drop}
use Rattle.sva_fabric.specs.LoopTokens.{has_ticket}
use Rattle.sva_fabric.proofs.loops.tickets.place_of.Given as goal

-- the tickets so far are others
abbrev pub invariant-loop-place : goal.invariant-loop-place
invariant-loop-place g l = has_ticket l.endpoint l.slot (drop l.place l.tickets) ≡ has_ticket l.endpoint l.slot l.tickets
