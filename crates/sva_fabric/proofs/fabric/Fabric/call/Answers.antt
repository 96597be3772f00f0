use Rattle.std.proofs.Common.{ℕ, Option, sym, ap, subst, ◌∙◌}
use Rattle.sva_core.specs.declared.receipts.Receipt.{Receipt}
use Rattle.sva_fabric.specs.Receipts.{PortState, IsAnswered, last_of}
use Rattle.sva_fabric.proofs.Standing.{answered, port_more, rise_more, counts_more}
use Rattle.sva_fabric.proofs.fabric.Fabric.call.Goals as goal

pub invariant_of-port-2 : goal.invariant_of-port-2
invariant_of-port-2 g c = (
  rise_more g.C.Ledgers.config c.port.inside.number c.port.inside.receipts.items c.reserve.new.self.items c.push_reserved.new.self.items
      c.last-last.result c.args.step.now c.in_ok-receipt.receipt c.port.invariant.0
      (c.last-last.ensures ∙ sym (ap (λ (s : PortState). last_of s.receipts) c.port.view_is))
      (answered g.C.Ledgers.config c.deref_mut.result.now c.step.new.self c.port.inside.number c.last-last.result c.args.step.now
      c.in_ok-receipt.receipt c.in_ok-receipt.ensures.answered c.in_ok-receipt.ensures.journal c.in_ok-receipt.ensures.legal
      c.in_ok-receipt.ensures.config)
      c.reserve.ensures.items c.push_reserved.ensures.items,
  c.in_ok-receipt.ensures.parts ∙ c.port.invariant.1,
  counts_more c.step.new.calls.amount c.port.inside.calls.amount c.port.inside.receipts.items c.reserve.new.self.items
      c.push_reserved.new.self.items c.in_ok-receipt.receipt c.in_ok-receipt.ensures.counted c.port.invariant.2
      c.reserve.ensures.items c.push_reserved.ensures.items,
)

pub returns-clause-handed : goal.returns-clause-handed
returns-clause-handed g c = c.in_ok-receipt.ensures.handed

pub returns-clause-answered : goal.returns-clause-answered
returns-clause-answered g c =
    subst (λ (n : ℕ). IsAnswered g.C.Ledgers.config n (last_of c.args.port.now.receipts) c.args.step.now c.in_ok-receipt.receipt)
    (ap (λ (s : PortState). s.number) c.port.view_is)
    (subst (λ (o : Option Receipt). IsAnswered g.C.Ledgers.config c.port.inside.number o c.args.step.now c.in_ok-receipt.receipt)
    c.last-last.ensures
    (answered g.C.Ledgers.config c.deref_mut.result.now c.step.new.self c.port.inside.number c.last-last.result c.args.step.now
    c.in_ok-receipt.receipt c.in_ok-receipt.ensures.answered c.in_ok-receipt.ensures.journal c.in_ok-receipt.ensures.legal
    c.in_ok-receipt.ensures.config))

pub returns-clause-kept : goal.returns-clause-kept
returns-clause-kept g c =
    port_more c.port.inside.number c.port.inside.receipts.items c.reserve.new.self.items c.push_reserved.new.self.items c.args.port.now
    c.in_ok-receipt.receipt c.port.view_is c.reserve.ensures.items c.push_reserved.ensures.items

pub returns-clause-suits : goal.returns-clause-suits
returns-clause-suits g c = c.in_ok-receipt.ensures.suits
