use Rattle.std.proofs.Common.{◌+◌, ◌-◌, Bool, true, false, sym, subst, refl, arith}
use Rattle.sva_step.specs.declared.steps.Step.TheVariants.{Deliver}
use Rattle.sva_fabric.specs.Asks.{IsAsked, HasDelivered}
use Rattle.sva_fabric.proofs.Asking.{IsDelivering, delivering_more, has_delivered, delivered_last}
use Rattle.sva_fabric.proofs.Ending.{last_asked}
use Rattle.sva_fabric.proofs.loops.linking.link.Goals.{in-Accepted, in-Again}
use Rattle.sva_fabric.proofs.loops.linking.link.Goals as goal

pub loop-turn-preserved : goal.loop-turn-preserved
loop-turn-preserved g c =
    let line = Deliver c.loop-turn.message in
    elim c.match-ask.branch [
      | in-Accepted w ↦
          let asked = subst (λ turn. IsAsked g.C.Ledgers.config line c.loop-turn.port c.ask.new.port turn) w.in-Accepted.is c.ask.ensures.asked in
          subst (λ m. IsDelivering m (c.loop-turn.turn + 1) c.args.port.now c.ask.new.port) (sym w.message-is)
          (delivering_more c.loop-turn.message c.loop-turn.turn c.args.port.now c.loop-turn.port c.ask.new.port true c.loop-turn.invariant asked)
      | in-Again w ↦
          let asked = subst (λ turn. IsAsked g.C.Ledgers.config line c.loop-turn.port c.ask.new.port turn) w.in-Again.is c.ask.ensures.asked in
          subst (λ m. IsDelivering m (c.loop-turn.turn + 1) c.args.port.now c.ask.new.port) (sym w.message-is)
          (delivering_more c.loop-turn.message c.loop-turn.turn c.args.port.now c.loop-turn.port c.ask.new.port false c.loop-turn.invariant asked)
    ]

pub returns-in_default-clause-delivered : goal.returns-in_default-clause-delivered
returns-in_default-clause-delivered g c =
    let last = last_asked g.C.Ledgers.config (Deliver c.loop-turn.message) c.loop-turn.port c.ask.new.port c.ask.result c.ask.ensures.asked
    c.in_default.not-Accepted c.in_default.not-Again in
    subst (λ (b : Bool). HasDelivered g.C.Ledgers.config (c.args.turns - c.by.result.turns_left) c.by.result.turns_left b c.args.port.now c.ask.new.port)
    (sym c.by.ensures.memory)
    (delivered_last g.C.Ledgers.config c.loop-turn.message c.loop-turn.turn (c.args.turns - c.by.result.turns_left) c.by.result.turns_left
    c.args.port.now c.loop-turn.port c.ask.new.port c.ask.result c.loop-turn.invariant last (omega arith))

pub returns-clause-delivered : goal.returns-clause-delivered
returns-clause-delivered g c =
    has_delivered g.C.Ledgers.config c.loop-turn.message c.loop-turn.turn (c.args.turns - 0) 0 c.args.port.now c.loop-turn.port c.loop-turn.invariant
    (omega arith) refl
