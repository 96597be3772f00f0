use Rattle.std.proofs.Common.{rules}
use Rattle.sva_endpoint.proofs.groups.GroupPlace.stale_of.Goals as goal

pub returns-in-Out : goal.returns-in-Out
returns-in-Out c = search rules
