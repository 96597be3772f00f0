use Rattle.std.proofs.Common.{rules}
use Rattle.sva_space.proofs.pages.Space.find.Goals as goal

pub returns-in-Some-clause-value : goal.returns-in-Some-clause-value
returns-in-Some-clause-value c = search rules
