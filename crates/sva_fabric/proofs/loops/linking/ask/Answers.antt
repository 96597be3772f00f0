use Rattle.std.proofs.Common.{sym, subst}
use Rattle.sva_fabric.specs.Asks.{IsAsked}
use Rattle.sva_fabric.proofs.Ending.{asked_turn}
use Rattle.sva_fabric.proofs.loops.linking.ask.Goals as goal

pub returns : goal.returns
returns g c = record {
  asked = subst (λ turn. IsAsked g.C.Ledgers.config c.args.step.now c.args.port.now c.step.new.port turn) (sym c.turn_of.ensures)
      (asked_turn g.C.Ledgers.config c.args.step.now c.args.port.now c.step.new.port c.step.result c.step.ensures.answered c.step.ensures.kept
      c.step.ensures.err c.step.ensures.fault);
}
