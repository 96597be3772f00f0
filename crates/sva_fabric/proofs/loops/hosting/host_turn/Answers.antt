use Rattle.std.proofs.Common.{◌∙◌, inl, inr, refl, sym, subst}
use Rattle.sva_step.specs.declared.steps.Step.{Step}
use Rattle.sva_fabric.specs.Asks.{IsAsked}
use Rattle.sva_fabric.specs.LoopTokens.{tokens_of_bindings}
use Rattle.sva_fabric.specs.Plays.{IsTurn}
use Rattle.sva_fabric.proofs.Ending.{asked_turn}
use Rattle.sva_fabric.proofs.Turns.{plain_try, plain_not_passed_by_host, others_passed_by_host}
use Rattle.sva_fabric.proofs.loops.hosting.host_turn.Goals as goal

pub returns-then-is_plain : goal.returns-then-is_plain
returns-then-is_plain g c =
    let line = c.args.line.now in
    let asked = subst (λ turn. IsAsked g.C.Ledgers.config line c.args.port.now c.step.new.port turn) (sym c.turn_of.ensures)
    (asked_turn g.C.Ledgers.config line c.args.port.now c.step.new.port c.step.result c.step.ensures.answered c.step.ensures.kept c.step.ensures.err
    c.step.ensures.fault) in
    let plain = sym c.is_plain.ensures ∙ c.if-is_plain.true in
    inr (
      plain_not_passed_by_host c.args.tokens.now.leases.items c.args.tokens.now.leavings.items line plain,
      plain_try g.C.Ledgers.config line c.args.port.now c.step.new.port 0 c.turn_of.result plain asked,
    )

pub returns-in_default : goal.returns-in_default
returns-in_default g c =
    inl (
      others_passed_by_host c.args.tokens.now.leases.items c.args.tokens.now.leavings.items c.args.line.now (sym c.is_plain.ensures ∙ c.if-is_plain.false)
          c.in_default.not-Bind c.in_default.not-Unbind c.in_default.not-Advance,
      refl,
      refl,
      refl,
    )

pub returns-in-Unbind : goal.returns-in-Unbind
returns-in-Unbind g c =
    subst (λ (line : Step). IsTurn g.C.Ledgers.config line c.args.port.now c.unbind.new.port
    (tokens_of_bindings c.args.tokens.now.leases.items c.args.tokens.now.leavings.items)
    (tokens_of_bindings c.unbind.new.leases.items c.unbind.new.leavings.items) c.unbind.result)
    (sym c.in-Unbind.is) c.unbind.ensures

pub returns-in-Advance : goal.returns-in-Advance
returns-in-Advance g c =
    subst (λ (line : Step). IsTurn g.C.Ledgers.config line c.args.port.now c.advance.new.port
    (tokens_of_bindings c.args.tokens.now.leases.items c.args.tokens.now.leavings.items)
    (tokens_of_bindings c.args.tokens.now.leases.items c.advance.new.leavings.items) c.advance.result)
    (sym c.in-Advance.is) (c.advance.ensures c.args.tokens.now.leases.items)
