use Rattle.std.proofs.Common.{rules}
use Rattle.sva_space.proofs.pages.Space.len.Goals as goal

pub returns-clause-len : goal.returns-clause-len
returns-clause-len c = search rules
