use Rattle.std.proofs.Common.{rules}
use Rattle.sva_endpoint.proofs.taken_table.TakenTable.new.Goals as goal

pub returns : goal.returns
returns c = search rules
