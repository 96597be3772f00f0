use Rattle.std.proofs.Common.{rules}
use Rattle.sva_msg.proofs.ranges.Range.encode.Goals as goal

pub returns-else-self-eq0-clause-page : goal.returns-else-self-eq0-clause-page
returns-else-self-eq0-clause-page c = search rules
