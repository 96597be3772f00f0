use Rattle.std.proofs.Common.{rules}
use Rattle.sva_prq.proofs.group_table.Group.is_collecting.Goals as goal

pub returns-then-self-index : goal.returns-then-self-index
returns-then-self-index c = search rules
