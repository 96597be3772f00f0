use Rattle.std.proofs.Common.{rules}
use Rattle.sva_prq.proofs.group_table.Groups.new.Goals as goal

pub returns : goal.returns
returns c = search rules
