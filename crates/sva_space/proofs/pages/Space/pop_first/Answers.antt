use Rattle.std.proofs.Common.{rules}
use Rattle.sva_space.proofs.pages.Space.pop_first.Goals as goal

pub returns-clause-some : goal.returns-clause-some
returns-clause-some c = search rules
