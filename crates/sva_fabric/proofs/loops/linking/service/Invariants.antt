use Rattle.sva_fabric.proofs.Asking.{IsServing}
use Rattle.sva_fabric.proofs.loops.linking.service.Given as goal

-- each turn so far pumped or served
abbrev pub invariant-loop-turn : goal.invariant-loop-turn
invariant-loop-turn g l = IsServing l.endpoints l.turn l.fn.port l.port
