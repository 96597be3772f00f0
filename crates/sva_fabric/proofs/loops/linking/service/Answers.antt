use Rattle.std.proofs.Common.{◌-◌, Bool, inl, inr, sym, subst, refl, arith}
use Rattle.sva_fabric.specs.Asks.{HasServed}
use Rattle.sva_fabric.proofs.Asking.{serving_after, has_served, served_last}
use Rattle.sva_fabric.proofs.Ending.{last_asked}
use Rattle.sva_fabric.proofs.loops.linking.service.Goals.{in-Accepted, in-Again}
use Rattle.sva_fabric.proofs.loops.linking.service.Goals as goal

pub loop-turn-preserved : goal.loop-turn-preserved
loop-turn-preserved g c = elim c.match-ask.branch [
  | in-Accepted w ↦
      serving_after g.C.Ledgers.config c.args.endpoints c.loop-turn.turn c.args.port.now c.loop-turn.port c.ask.new.port c.service_step.result c.ask.result
      c.loop-turn.invariant c.service_step.ensures.step c.ask.ensures.asked (inl w.in-Accepted.is)
  | in-Again w ↦
      serving_after g.C.Ledgers.config c.args.endpoints c.loop-turn.turn c.args.port.now c.loop-turn.port c.ask.new.port c.service_step.result c.ask.result
      c.loop-turn.invariant c.service_step.ensures.step c.ask.ensures.asked (inr w.in-Again.is)
]

pub returns-in_default-clause-served : goal.returns-in_default-clause-served
returns-in_default-clause-served g c =
    let last = last_asked g.C.Ledgers.config c.service_step.result c.loop-turn.port c.ask.new.port c.ask.result c.ask.ensures.asked
    c.in_default.not-Accepted c.in_default.not-Again in
    subst (λ (b : Bool). HasServed g.C.Ledgers.config c.args.endpoints (c.args.turns - c.by.result.turns_left) c.by.result.turns_left b
    c.args.port.now c.ask.new.port)
    (sym c.by.ensures.memory)
    (served_last g.C.Ledgers.config c.args.endpoints c.loop-turn.turn (c.args.turns - c.by.result.turns_left) c.by.result.turns_left
    c.args.port.now c.loop-turn.port c.ask.new.port c.ask.result c.loop-turn.invariant last (omega arith))

pub returns-clause-served : goal.returns-clause-served
returns-clause-served g c =
    has_served g.C.Ledgers.config c.args.endpoints c.loop-turn.turn (c.args.turns - 0) 0 c.args.port.now c.loop-turn.port c.loop-turn.invariant
    (omega arith) refl
