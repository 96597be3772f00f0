use Rattle.sva_msg.proofs.Histories.{gives_numbers_once, loses_none, keeps_order, never_stops}
use Rattle.sva_msg.proofs.in_flight.laws.Goals as goal

pub returns-clause-numbers : goal.returns-clause-numbers
returns-clause-numbers c = gives_numbers_once

pub returns-clause-none_lost : goal.returns-clause-none_lost
returns-clause-none_lost c = loses_none

pub returns-clause-order : goal.returns-clause-order
returns-clause-order c = keeps_order

pub returns-clause-never_stops : goal.returns-clause-never_stops
returns-clause-never_stops c = never_stops
