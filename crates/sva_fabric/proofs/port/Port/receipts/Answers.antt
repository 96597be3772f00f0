use Rattle.std.proofs.Common.{ap, subst, ◌∙◌}
use Rattle.sva_fabric.specs.Receipts.{PortState, AreRising}
use Rattle.sva_fabric.proofs.port.Port.receipts.Goals as goal

pub returns-clause-exact : goal.returns-clause-exact
returns-clause-exact g c = c.as_slice.ensures.value ∙ ap (λ (s : PortState). s.receipts) c.self.view_is

pub returns-clause-rising : goal.returns-clause-rising
returns-clause-rising g c = subst (λ (s : PortState). AreRising s.receipts) c.self.view_is c.self.invariant.0
