use Rattle.std.proofs.Common.{◌∙◌, inl, inr, refl, sym, subst, length}
use Rattle.sva_step.specs.declared.steps.Step.{Step}
use Rattle.sva_fabric.specs.Asks.{IsAsked}
use Rattle.sva_fabric.specs.LoopTokens.{tokens_of_tickets}
use Rattle.sva_fabric.specs.Plays.{IsTurn}
use Rattle.sva_fabric.proofs.Ending.{asked_turn}
use Rattle.sva_fabric.proofs.Turns.{plain_try, plain_not_passed, others_passed}
use Rattle.sva_fabric.proofs.loops.using.take_turn.Goals as goal

pub returns-then-is_plain-clause-turn : goal.returns-then-is_plain-clause-turn
returns-then-is_plain-clause-turn g c =
    let line = c.args.line.now in
    let asked = subst (λ turn. IsAsked g.C.Ledgers.config line c.args.port.now c.step.new.port turn) (sym c.turn_of.ensures)
    (asked_turn g.C.Ledgers.config line c.args.port.now c.step.new.port c.step.result c.step.ensures.answered c.step.ensures.kept c.step.ensures.err
    c.step.ensures.fault) in
    let plain = sym c.is_plain.ensures ∙ c.if-is_plain.true in
    inr (
      plain_not_passed c.args.tickets.now.items line plain,
      plain_try g.C.Ledgers.config line c.args.port.now c.step.new.port (length c.args.tickets.now.items) c.turn_of.result plain asked,
    )

pub returns-in_default-clause-turn : goal.returns-in_default-clause-turn
returns-in_default-clause-turn g c =
    inl (
      others_passed c.args.tickets.now.items c.args.line.now (sym c.is_plain.ensures ∙ c.if-is_plain.false) c.in_default.not-BeginUse c.in_default.not-EndUse,
      refl,
      refl,
      refl,
    )

pub returns-in-BeginUse-clause-turn : goal.returns-in-BeginUse-clause-turn
returns-in-BeginUse-clause-turn g c =
    subst (λ (line : Step). IsTurn g.C.Ledgers.config line c.args.port.now c.begin_use.new.port (tokens_of_tickets c.args.tickets.now.items)
    (tokens_of_tickets c.begin_use.new.tickets.items) c.begin_use.result) (sym c.in-BeginUse.is) c.begin_use.ensures.turn

pub returns-in-EndUse-clause-turn : goal.returns-in-EndUse-clause-turn
returns-in-EndUse-clause-turn g c =
    subst (λ (line : Step). IsTurn g.C.Ledgers.config line c.args.port.now c.end_use.new.port (tokens_of_tickets c.args.tickets.now.items)
    (tokens_of_tickets c.end_use.new.tickets.items) c.end_use.result) (sym c.in-EndUse.is) c.end_use.ensures.turn
