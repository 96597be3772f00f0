use Rattle.std.specs.Prelude.{refl}
use Rattle.sva_model.specs.Words.{lowest, any_below, all_below, count_below, select, tabulate}
use Rattle.sva_model.specs.Steps.{replies}
use Rattle.sva_refinement.proofs.by_names.readings.Goals as goal

pub returns-clause-last_request_past_a_marker : goal.returns-clause-last_request_past_a_marker
unfolding lowest any_below all_below count_below select tabulate replies
returns-clause-last_request_past_a_marker c = (refl, refl)

pub returns-clause-marker_past_a_marker : goal.returns-clause-marker_past_a_marker
unfolding lowest any_below all_below count_below select tabulate replies
returns-clause-marker_past_a_marker c = (refl, refl)

pub returns-clause-request_without_l_is_not_ordered : goal.returns-clause-request_without_l_is_not_ordered
unfolding lowest any_below all_below count_below select tabulate replies
returns-clause-request_without_l_is_not_ordered c = (refl, refl)

pub returns-clause-advance_of_a_live_binding : goal.returns-clause-advance_of_a_live_binding
unfolding lowest any_below all_below count_below select tabulate replies
returns-clause-advance_of_a_live_binding c = (refl, refl)

pub returns-clause-advance_of_a_lost_binding : goal.returns-clause-advance_of_a_lost_binding
unfolding lowest any_below all_below count_below select tabulate replies
returns-clause-advance_of_a_lost_binding c = (refl, refl)

pub returns-clause-one_number_of_each_kind : goal.returns-clause-one_number_of_each_kind
unfolding lowest any_below all_below count_below select tabulate replies
returns-clause-one_number_of_each_kind c = (refl, refl)

pub returns-clause-unmap_past_the_last_page : goal.returns-clause-unmap_past_the_last_page
unfolding lowest any_below all_below count_below select tabulate replies
returns-clause-unmap_past_the_last_page c = (refl, refl)

pub returns-clause-unmap_while_drained_in_reset : goal.returns-clause-unmap_while_drained_in_reset
unfolding lowest any_below all_below count_below select tabulate replies
returns-clause-unmap_while_drained_in_reset c = (refl, refl)

pub returns-clause-unmap_while_invalidating_in_reset : goal.returns-clause-unmap_while_invalidating_in_reset
unfolding lowest any_below all_below count_below select tabulate replies
returns-clause-unmap_while_invalidating_in_reset c = (refl, refl)

pub returns-clause-unmap_after_the_invalidation : goal.returns-clause-unmap_after_the_invalidation
unfolding lowest any_below all_below count_below select tabulate replies
returns-clause-unmap_after_the_invalidation c = (refl, refl)

pub returns-clause-page_named_twice : goal.returns-clause-page_named_twice
unfolding lowest any_below all_below count_below select tabulate replies
returns-clause-page_named_twice c = (refl, refl)

pub returns-clause-page_request_for_neither : goal.returns-clause-page_request_for_neither
unfolding lowest any_below all_below count_below select tabulate replies
returns-clause-page_request_for_neither c = (refl, refl)

pub returns-clause-other_verdicts_need_no_frame : goal.returns-clause-other_verdicts_need_no_frame
unfolding lowest any_below all_below count_below select tabulate replies
returns-clause-other_verdicts_need_no_frame c = (refl, refl)

pub returns-clause-success_that_is_none : goal.returns-clause-success_that_is_none
unfolding lowest any_below all_below count_below select tabulate replies
returns-clause-success_that_is_none c = (refl, refl)

pub returns-clause-job_of_a_lost_binding : goal.returns-clause-job_of_a_lost_binding
unfolding lowest any_below all_below count_below select tabulate replies
returns-clause-job_of_a_lost_binding c = (refl, refl)

pub returns-clause-drain_waits_for_other_pasids : goal.returns-clause-drain_waits_for_other_pasids
unfolding lowest any_below all_below count_below select tabulate replies
returns-clause-drain_waits_for_other_pasids c = (refl, refl)

pub returns-clause-wait_of_an_unmap_does_not_drain : goal.returns-clause-wait_of_an_unmap_does_not_drain
unfolding lowest any_below all_below count_below select tabulate replies
returns-clause-wait_of_an_unmap_does_not_drain c = (refl, refl)

pub returns-clause-stale_groups_keep_their_requests : goal.returns-clause-stale_groups_keep_their_requests
unfolding lowest any_below all_below count_below select tabulate replies
returns-clause-stale_groups_keep_their_requests c = (refl, refl)

pub returns-clause-unfinished_where_disabled : goal.returns-clause-unfinished_where_disabled
unfolding lowest any_below all_below count_below select tabulate replies
returns-clause-unfinished_where_disabled c = (refl, refl)

pub returns-clause-unfinished_without_credit : goal.returns-clause-unfinished_without_credit
unfolding lowest any_below all_below count_below select tabulate replies
returns-clause-unfinished_without_credit c = (refl, refl)

pub returns-clause-group_while_stopping : goal.returns-clause-group_while_stopping
unfolding lowest any_below all_below count_below select tabulate replies
returns-clause-group_while_stopping c = (refl, refl)

pub returns-clause-group_of_another_pasid : goal.returns-clause-group_of_another_pasid
unfolding lowest any_below all_below count_below select tabulate replies
returns-clause-group_of_another_pasid c = (refl, refl)

pub returns-clause-second_reset : goal.returns-clause-second_reset
unfolding lowest any_below all_below count_below select tabulate replies
returns-clause-second_reset c = (refl, refl)

pub returns-clause-doomed_requests_are_out : goal.returns-clause-doomed_requests_are_out
unfolding lowest any_below all_below count_below select tabulate replies
returns-clause-doomed_requests_are_out c = (refl, refl)

pub returns-clause-failure_before_the_stop : goal.returns-clause-failure_before_the_stop
unfolding lowest any_below all_below count_below select tabulate replies
returns-clause-failure_before_the_stop c = (refl, refl)

pub returns-clause-earlier_waits_in_reset : goal.returns-clause-earlier_waits_in_reset
unfolding lowest any_below all_below count_below select tabulate replies
returns-clause-earlier_waits_in_reset c = (refl, refl)

pub returns-clause-orders_down_stay_in_order : goal.returns-clause-orders_down_stay_in_order
unfolding lowest any_below all_below count_below select tabulate replies
returns-clause-orders_down_stay_in_order c = (refl, refl)

pub returns-clause-stop_behind_an_invalidate : goal.returns-clause-stop_behind_an_invalidate
unfolding lowest any_below all_below count_below select tabulate replies
returns-clause-stop_behind_an_invalidate c = (refl, refl)

pub returns-clause-range_past_the_last_page : goal.returns-clause-range_past_the_last_page
unfolding lowest any_below all_below count_below select tabulate replies
returns-clause-range_past_the_last_page c = (refl, refl)

pub returns-clause-unmap_while_invalidating_one_that_started : goal.returns-clause-unmap_while_invalidating_one_that_started
unfolding lowest any_below all_below count_below select tabulate replies
returns-clause-unmap_while_invalidating_one_that_started c = (refl, refl)
