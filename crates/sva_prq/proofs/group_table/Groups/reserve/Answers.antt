use Rattle.std.proofs.Common.{rules}
use Rattle.sva_prq.proofs.group_table.Groups.reserve.Goals as goal

pub invariant_of-self-then-self-eq0 : goal.invariant_of-self-then-self-eq0
invariant_of-self-then-self-eq0 c = search rules
