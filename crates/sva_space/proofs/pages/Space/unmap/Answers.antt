use Rattle.std.proofs.Common.{rules}
use Rattle.sva_space.proofs.pages.Space.unmap.Goals as goal

pub returns-clause-value : goal.returns-clause-value
returns-clause-value c = search rules
