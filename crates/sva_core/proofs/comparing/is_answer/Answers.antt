use Rattle.std.proofs.Common.{sym, ◌∙◌}
use Rattle.sva_core.proofs.EqualityTests.{same_answer}
use Rattle.sva_core.proofs.comparing.is_answer.Goals as goal

pub returns-clause-yes : goal.returns-clause-yes
returns-clause-yes c is = same_answer c.args.one.now c.args.other.now (sym c.eq.ensures ∙ is)
