use Rattle.std.proofs.Common.{sym, ◌∙◌}
use Rattle.sva_core.proofs.EqualityTests.{same_step}
use Rattle.sva_core.proofs.comparing.is_same_step.Goals as goal

pub returns-clause-yes : goal.returns-clause-yes
returns-clause-yes c is = same_step c.args.one.now c.args.other.now (sym c.eq.ensures ∙ is)
