use Rattle.sva_open_laws.proofs.Ended.{ends_are_there, lists_are_bounded, never_stuck_is_done}
use Rattle.sva_open_laws.proofs.Lowered.{each_event_lowers}
use Rattle.sva_open_laws.proofs.ends.each_driver_ends.Goals as goal

pub returns-clause-lowers : goal.returns-clause-lowers
returns-clause-lowers c = each_event_lowers

pub returns-clause-bounded : goal.returns-clause-bounded
returns-clause-bounded c = lists_are_bounded

pub returns-clause-ends : goal.returns-clause-ends
returns-clause-ends c = ends_are_there

pub returns-clause-done : goal.returns-clause-done
returns-clause-done c = never_stuck_is_done
