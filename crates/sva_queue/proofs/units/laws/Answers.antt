use Rattle.sva_queue.proofs.InTurn.{always_fits, first_in_first_out, tags_by_calls}
use Rattle.sva_queue.proofs.Waits.{done_behind}
use Rattle.sva_queue.proofs.Fronts.{always_in_order, pending_from_front, done_below_front}
use Rattle.sva_queue.proofs.units.laws.Goals as goal

pub returns-clause-fits : goal.returns-clause-fits
returns-clause-fits c = always_fits

pub returns-clause-order : goal.returns-clause-order
returns-clause-order c = first_in_first_out

pub returns-clause-waits : goal.returns-clause-waits
returns-clause-waits c = done_behind

pub returns-clause-tags : goal.returns-clause-tags
returns-clause-tags c = tags_by_calls

pub returns-clause-cookies : goal.returns-clause-cookies
returns-clause-cookies c = always_in_order

pub returns-clause-pending : goal.returns-clause-pending
returns-clause-pending c = pending_from_front

pub returns-clause-done : goal.returns-clause-done
returns-clause-done c = done_below_front
