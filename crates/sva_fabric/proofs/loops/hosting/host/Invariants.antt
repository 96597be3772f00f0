use Rattle.sva_fabric.specs.LoopTokens.{tokens_of_bindings}
use Rattle.sva_fabric.proofs.Tries.{IsPlaying}
use Rattle.sva_fabric.proofs.loops.hosting.host.Given as goal

abbrev pub invariant-loop-turn : goal.invariant-loop-turn
invariant-loop-turn g l =
    IsPlaying l.script l.accepted l.turn l.fn.port l.port (tokens_of_bindings l.fn.tokens.leases.items l.fn.tokens.leavings.items)
    (tokens_of_bindings l.tokens.leases.items l.tokens.leavings.items)
