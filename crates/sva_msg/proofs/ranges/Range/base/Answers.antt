use Rattle.std.proofs.Common.{rules}
use Rattle.sva_msg.proofs.ranges.Range.base.Goals as goal

pub returns-clause-base : goal.returns-clause-base
returns-clause-base c = search rules
