use Rattle.std.proofs.Common.{sym, ap, ◌∙◌, rules}
use Rattle.sva_core.specs.Journal.{History}
use Rattle.sva_core.specs.Books.{totals_of}
use Rattle.sva_core.proofs.TokenLemmas.{empty_totals}
use Rattle.sva_core.proofs.running.Running.open.Goals as goal

pub invariant_of-result : goal.invariant_of-result
invariant_of-result g c = (
  c.requires.none ∙ sym (ap totals_of c.in_ok-journaled.ensures.ok.1 ∙ empty_totals c.args.config),
  ap (λ (h : History). h.config) c.in_ok-journaled.ensures.ok.1 ∙ c.requires.config,
)

pub returns-in_err-journaled-clause-bad : goal.returns-in_err-journaled-clause-bad
returns-in_err-journaled-clause-bad g c = search rules

pub returns-clause-ok : goal.returns-clause-ok
returns-clause-ok g c = c.in_ok-journaled.ensures.ok

pub returns-clause-bad : goal.returns-clause-bad
returns-clause-bad g c = (λ is. absurd (cc), λ unfit. absurd (unfit c.in_ok-journaled.ensures.ok.0))
