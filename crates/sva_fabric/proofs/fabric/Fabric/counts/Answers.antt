use Rattle.std.proofs.Common.{ℕ, Option, subst}
use Rattle.std.specs.Prelude.{IfOk, IfErr}
use Rattle.sva_core.specs.declared.receipts.Receipt.{Receipt}
use Rattle.sva_fabric.specs.Receipts.{IsCounted, IsAstray, last_of}
use Rattle.sva_fabric.proofs.Standing.{counted, astray}
use Rattle.sva_fabric.proofs.fabric.Fabric.counts.Goals as goal

pub returns-clause-counted : goal.returns-clause-counted
returns-clause-counted g c =
    subst (λ (n : ℕ). IfOk c.counts.result (IsCounted g.C.Ledgers.config n (last_of c.args.port.now.receipts))) c.number.ensures
    (subst (λ (o : Option Receipt). IfOk c.counts.result (IsCounted g.C.Ledgers.config c.number.result o)) c.last.ensures
    (counted g.C.Ledgers.config c.deref.result.now c.number.result c.last.result c.counts.result c.counts.ensures.legal c.counts.ensures.config
    c.counts.ensures.counts c.counts.ensures.stands))

pub returns-clause-fault : goal.returns-clause-fault
returns-clause-fault g c =
    subst (λ (n : ℕ). IfErr c.counts.result (IsAstray g.C.Ledgers.config n (last_of c.args.port.now.receipts))) c.number.ensures
    (subst (λ (o : Option Receipt). IfErr c.counts.result (IsAstray g.C.Ledgers.config c.number.result o)) c.last.ensures
    (astray g.C.Ledgers.config c.deref.result.now c.number.result c.last.result c.counts.result c.counts.ensures.legal c.counts.ensures.config
    c.counts.ensures.fault))
