use Rattle.std.proofs.Common.{rules}
use Rattle.sva_prq.proofs.page_queue.PageQueue.serve.Goals as goal

pub returns-clause-oldest : goal.returns-clause-oldest
returns-clause-oldest c = search rules

pub returns-clause-rest : goal.returns-clause-rest
returns-clause-rest c = search rules
