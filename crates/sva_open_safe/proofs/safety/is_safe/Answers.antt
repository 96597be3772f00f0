use Rattle.std.proofs.Common.{rules}
use Rattle.sva_open_safe.proofs.Tested.{is_test_of}
use Rattle.sva_open_safe.proofs.safety.is_safe.Goals as goal

pub returns-clause-safe : goal.returns-clause-safe
returns-clause-safe c = is_test_of c.args.now.now c.are_parts_safe.result (search rules)
