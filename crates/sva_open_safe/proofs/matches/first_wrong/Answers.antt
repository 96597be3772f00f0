use Rattle.std.proofs.Common.{rules}
use Rattle.sva_open_safe.proofs.WrongsAndSafety.{nothing_found_where_safe}
use Rattle.sva_open_safe.proofs.matches.first_wrong.Goals as goal

pub returns-clause-safe : goal.returns-clause-safe
returns-clause-safe c = nothing_found_where_safe c.args.now.now _ (search rules)
