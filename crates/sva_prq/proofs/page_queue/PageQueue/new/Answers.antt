use Rattle.std.proofs.Common.{rules}
use Rattle.sva_prq.proofs.page_queue.PageQueue.new.Goals as goal

pub returns : goal.returns
returns c = search rules
