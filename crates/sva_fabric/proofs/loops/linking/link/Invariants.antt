use Rattle.sva_fabric.proofs.Asking.{IsDelivering}
use Rattle.sva_fabric.proofs.loops.linking.link.Given as goal

-- the turns so far delivered the messages below this one
abbrev pub invariant-loop-turn : goal.invariant-loop-turn
invariant-loop-turn g l = IsDelivering l.message l.turn l.fn.port l.port
