use Rattle.std.proofs.Common.{sym, ap, ◌∙◌, arith}
use Rattle.sva_core.specs.Books.{Totals}
use Rattle.sva_core.proofs.running.Running.compare.Goals as goal

pub invariant_of-self : goal.invariant_of-self
invariant_of-self g c = (c.compare.ensures.same ∙ c.self.invariant.0, c.self.invariant.1)

pub returns-clause-parts : goal.returns-clause-parts
returns-clause-parts g c = c.compare.ensures.parts

pub returns-clause-amount : goal.returns-clause-amount
returns-clause-amount g c = c.compare.ensures.amount

pub returns-clause-some : goal.returns-clause-some
returns-clause-some g c = omega (arith, c.compare.ensures.amount, c.compare.ensures.some, ap (λ (t : Totals). t.calls) c.self.invariant.0)

pub returns-clause-all : goal.returns-clause-all
returns-clause-all g c = λ all. c.compare.ensures.amount ∙ (c.compare.ensures.all (sym c.compare.ensures.parts ∙ all)
    ∙ ap (λ (t : Totals). t.calls) c.self.invariant.0)
