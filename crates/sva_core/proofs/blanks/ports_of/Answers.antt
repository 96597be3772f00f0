use Rattle.std.proofs.Common.{rules}
use Rattle.sva_core.proofs.blanks.ports_of.Goals as goal

pub returns : goal.returns
returns c = search rules
