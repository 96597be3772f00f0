use Rattle.std.proofs.Common.{rules}
use Rattle.sva_prq.proofs.page_queue.PageQueue.arrive.Goals as goal

pub returns : goal.returns
returns c = search rules
