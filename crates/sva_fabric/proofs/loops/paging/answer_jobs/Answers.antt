use Rattle.std.proofs.Common.{◌-◌, Bool, is_some, inl, inr, sym, subst, refl, arith}
use Rattle.sva_fabric.specs.Jobs.{HasAnswered}
use Rattle.sva_fabric.proofs.Working.{working_after, last_job, has_answered, answered_last}
use Rattle.sva_fabric.proofs.loops.paging.answer_jobs.Goals.{in-Accepted, in-Again}
use Rattle.sva_fabric.proofs.loops.paging.answer_jobs.Goals as goal

pub loop-turn-preserved : goal.loop-turn-preserved
loop-turn-preserved g c =
    let holds = is_some c.loop-turn.decided in
    let held = is_some c.take_turn.new.decided in
    elim c.match-take_turn.branch [
      | in-Accepted w ↦
          working_after g.C.Ledgers.config c.args.worker c.loop-turn.turn holds held c.args.port.now c.loop-turn.port
          c.take_turn.new.port c.take_turn.result c.loop-turn.invariant c.take_turn.ensures (inl w.in-Accepted.is)
      | in-Again w ↦
          working_after g.C.Ledgers.config c.args.worker c.loop-turn.turn holds held c.args.port.now c.loop-turn.port
          c.take_turn.new.port c.take_turn.result c.loop-turn.invariant c.take_turn.ensures (inr w.in-Again.is)
    ]

pub returns-in_default-clause-answered : goal.returns-in_default-clause-answered
returns-in_default-clause-answered g c =
    let last = last_job g.C.Ledgers.config c.args.worker (is_some c.loop-turn.decided) (is_some c.take_turn.new.decided) c.loop-turn.port
    c.take_turn.new.port c.take_turn.result c.take_turn.ensures c.in_default.not-Accepted c.in_default.not-Again in
    subst (λ (b : Bool). HasAnswered g.C.Ledgers.config c.args.worker (c.args.turns - c.by.result.turns_left) c.by.result.turns_left b
    c.args.port.now c.take_turn.new.port)
    (sym c.by.ensures.memory)
    (answered_last g.C.Ledgers.config c.args.worker c.loop-turn.turn (c.args.turns - c.by.result.turns_left) c.by.result.turns_left
    (is_some c.loop-turn.decided) c.args.port.now c.loop-turn.port c.take_turn.new.port c.take_turn.result c.loop-turn.invariant last (omega arith))

pub returns-clause-answered : goal.returns-clause-answered
returns-clause-answered g c =
    has_answered g.C.Ledgers.config c.args.worker c.loop-turn.turn (c.args.turns - 0) 0 (is_some c.loop-turn.decided) c.args.port.now c.loop-turn.port
    c.loop-turn.invariant (omega arith) refl
