use Rattle.sva_prq.proofs.QueueLaws.{first_in_first_out, never_overflows}
use Rattle.sva_prq.proofs.laws.queue_laws.Goals as goal

pub returns-clause-in_order : goal.returns-clause-in_order
returns-clause-in_order c = first_in_first_out

pub returns-clause-bounded : goal.returns-clause-bounded
returns-clause-bounded c = never_overflows
