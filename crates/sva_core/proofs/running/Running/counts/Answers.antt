use Rattle.std.proofs.Common.{subst}
use Rattle.sva_core.specs.Journal.{History, CountsOf}
use Rattle.sva_core.proofs.running.Running.counts.Goals as goal

pub returns-clause-counts : goal.returns-clause-counts
returns-clause-counts g c = subst (λ (h : History). CountsOf h c.counts-counts.result) c.self.view_is c.counts-counts.ensures.counts
