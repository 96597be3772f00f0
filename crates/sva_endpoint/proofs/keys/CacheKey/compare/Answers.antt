use Rattle.std.proofs.Common.{rules}
use Rattle.sva_endpoint.proofs.keys.CacheKey.compare.Goals as goal

pub returns-clause-counted : goal.returns-clause-counted
returns-clause-counted c = search rules
