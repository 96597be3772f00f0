use Rattle.std.proofs.Common.{◌≡◌, ◌+◌, ◌-◌, Bool, sym, subst, refl, arith}
use Rattle.sva_fabric.specs.LoopTokens.{tokens_of_bindings}
use Rattle.sva_fabric.specs.Plays.{HasPlayed}
use Rattle.sva_fabric.proofs.Tries.{IsPlaying, line_got, lines_over, playing_accepted, playing_again, played_all, played_out, played_last}
use Rattle.sva_fabric.proofs.loops.hosting.host.Goals.{in-Accepted, in-Again}
use Rattle.sva_fabric.proofs.loops.hosting.host.Goals as goal

pub loop-turn-preserved : goal.loop-turn-preserved
loop-turn-preserved g c =
    let h = tokens_of_bindings c.args.tokens.now.leases.items c.args.tokens.now.leavings.items in
    let k = tokens_of_bindings c.loop-turn.tokens.leases.items c.loop-turn.tokens.leavings.items in
    let m = tokens_of_bindings c.host_turn.new.tokens.leases.items c.host_turn.new.tokens.leavings.items in
    let at = line_got c.args.script.now c.loop-turn.accepted c.get.result c.in-Some.line c.get.ensures.lookup c.in-Some.is in
    elim c.match-host_turn.branch [
      | in-Accepted w ↦
          subst (λ a. IsPlaying c.args.script.now a (c.loop-turn.turn + 1) c.args.port.now c.host_turn.new.port h m) (sym w.accepted-is)
          (playing_accepted g.C.Ledgers.config c.args.script.now c.loop-turn.accepted c.loop-turn.turn c.args.port.now c.loop-turn.port
          c.host_turn.new.port h k m c.in-Some.line.now c.host_turn.result c.loop-turn.invariant at c.host_turn.ensures w.in-Accepted.is)
      | in-Again w ↦
          subst (λ a. IsPlaying c.args.script.now a (c.loop-turn.turn + 1) c.args.port.now c.host_turn.new.port h m) (sym w.accepted-is)
          (playing_again g.C.Ledgers.config c.args.script.now c.loop-turn.accepted c.loop-turn.turn c.args.port.now c.loop-turn.port
          c.host_turn.new.port h k m c.in-Some.line.now c.host_turn.result c.loop-turn.invariant at c.host_turn.ensures w.in-Again.is)
    ]

pub returns-in_default-clause-played : goal.returns-in_default-clause-played
returns-in_default-clause-played g c =
    played_all g.C.Ledgers.config c.args.script.now c.loop-turn.accepted c.loop-turn.turn _ _ c.args.port.now c.loop-turn.port
    (tokens_of_bindings c.args.tokens.now.leases.items c.args.tokens.now.leavings.items)
    (tokens_of_bindings c.loop-turn.tokens.leases.items c.loop-turn.tokens.leavings.items) c.loop-turn.invariant
    (lines_over c.args.script.now c.loop-turn.accepted c.get.result c.get.ensures.lookup c.in_default.not-Some) (omega arith)

pub returns-in_default-host_turn-clause-played : goal.returns-in_default-host_turn-clause-played
returns-in_default-host_turn-clause-played g c =
    let h = tokens_of_bindings c.args.tokens.now.leases.items c.args.tokens.now.leavings.items in
    let k = tokens_of_bindings c.loop-turn.tokens.leases.items c.loop-turn.tokens.leavings.items in
    let m = tokens_of_bindings c.host_turn.new.tokens.leases.items c.host_turn.new.tokens.leavings.items in
    let at = line_got c.args.script.now c.loop-turn.accepted c.get.result c.in-Some.line c.get.ensures.lookup c.in-Some.is in
    subst (λ (b : Bool). HasPlayed g.C.Ledgers.config c.args.script.now (c.args.turns - c.by.result.turns_left) c.by.result.turns_left b
    c.args.port.now c.host_turn.new.port h m) (sym c.by.ensures.memory)
    (played_last g.C.Ledgers.config c.args.script.now c.loop-turn.accepted c.loop-turn.turn (c.args.turns - c.by.result.turns_left) c.by.result.turns_left
    c.args.port.now c.loop-turn.port c.host_turn.new.port h k m c.in-Some.line.now c.host_turn.result c.loop-turn.invariant at
    c.host_turn.ensures c.in_default-host_turn.not-Accepted c.in_default-host_turn.not-Again (omega arith))

pub returns-clause-played : goal.returns-clause-played
returns-clause-played g c =
    played_out g.C.Ledgers.config c.args.script.now c.loop-turn.accepted c.loop-turn.turn (c.args.turns - 0) 0 c.args.port.now c.loop-turn.port
    (tokens_of_bindings c.args.tokens.now.leases.items c.args.tokens.now.leavings.items)
    (tokens_of_bindings c.loop-turn.tokens.leases.items c.loop-turn.tokens.leavings.items) c.loop-turn.invariant (omega arith) refl
