use Rattle.std.specs.Prelude.{refl}
use Rattle.sva_model.specs.Words.{lowest, any_below, all_below, count_below, select, tabulate}
use Rattle.sva_model.specs.Steps.{replies}
use Rattle.sva_refinement.proofs.by_names.own_causes.Goals as goal

pub returns-clause-full_queue_of_ranges : goal.returns-clause-full_queue_of_ranges
unfolding lowest any_below all_below count_below select tabulate replies
returns-clause-full_queue_of_ranges c = (refl, refl)

pub returns-clause-open_beside_a_reset : goal.returns-clause-open_beside_a_reset
unfolding lowest any_below all_below count_below select tabulate replies
returns-clause-open_beside_a_reset c = (refl, refl)

pub returns-clause-quiet_beside_a_reset : goal.returns-clause-quiet_beside_a_reset
unfolding lowest any_below all_below count_below select tabulate replies
returns-clause-quiet_beside_a_reset c = (refl, refl)

pub returns-clause-success_of_a_full_space : goal.returns-clause-success_of_a_full_space
unfolding lowest any_below all_below count_below select tabulate replies
returns-clause-success_of_a_full_space c = (refl, refl)

pub returns-clause-read_beside_a_write : goal.returns-clause-read_beside_a_write
unfolding lowest any_below all_below count_below select tabulate replies
returns-clause-read_beside_a_write c = (refl, refl)

pub returns-clause-lost_beside_a_full_queue : goal.returns-clause-lost_beside_a_full_queue
unfolding lowest any_below all_below count_below select tabulate replies
returns-clause-lost_beside_a_full_queue c = (refl, refl)

pub returns-clause-drop_beside_a_job : goal.returns-clause-drop_beside_a_job
unfolding lowest any_below all_below count_below select tabulate replies
returns-clause-drop_beside_a_job c = (refl, refl)

pub returns-clause-quit_beside_a_stale_group : goal.returns-clause-quit_beside_a_stale_group
unfolding lowest any_below all_below count_below select tabulate replies
returns-clause-quit_beside_a_stale_group c = (refl, refl)

pub returns-clause-room_at_the_second_unit : goal.returns-clause-room_at_the_second_unit
unfolding lowest any_below all_below count_below select tabulate replies
returns-clause-room_at_the_second_unit c = (refl, refl)

pub returns-clause-credit_of_a_dropped_request : goal.returns-clause-credit_of_a_dropped_request
unfolding lowest any_below all_below count_below select tabulate replies
returns-clause-credit_of_a_dropped_request c = (refl, refl)

pub returns-clause-bearers_at_three_endpoints : goal.returns-clause-bearers_at_three_endpoints
unfolding lowest any_below all_below count_below select tabulate replies
returns-clause-bearers_at_three_endpoints c = (refl, refl)

pub returns-clause-bearer_by_number : goal.returns-clause-bearer_by_number
unfolding lowest any_below all_below count_below select tabulate replies
returns-clause-bearer_by_number c = (refl, refl)

pub returns-clause-greatest_pasid : goal.returns-clause-greatest_pasid
unfolding lowest any_below all_below count_below select tabulate replies
returns-clause-greatest_pasid c = (refl, refl)
