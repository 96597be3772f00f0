use Rattle.std.proofs.Common.{rules}
use Rattle.sva_endpoint.proofs.groups.GroupTable.unfinished.Goals as goal

pub returns-then-is_collecting-clause-found : goal.returns-then-is_collecting-clause-found
returns-then-is_collecting-clause-found c = search rules
