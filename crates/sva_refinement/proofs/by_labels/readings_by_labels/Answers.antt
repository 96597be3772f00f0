use Rattle.std.specs.Prelude.{refl}
use Rattle.sva_model.specs.Words.{lowest, any_below, all_below, count_below, select, tabulate}
use Rattle.sva_labels.specs.Host.{replies_of}
use Rattle.sva_refinement.specs.ByLabels.{counts_after}
use Rattle.sva_refinement.proofs.by_labels.readings_by_labels.Goals as goal

pub returns : goal.returns
unfolding lowest any_below all_below count_below select tabulate replies_of counts_after
returns c =
    record {
      last_request_past_a_marker = (refl, refl);
      marker_past_a_marker = (refl, refl);
      request_without_l_is_not_ordered = (refl, refl);
      advance_of_a_live_binding = (refl, refl);
      advance_of_a_lost_binding = (refl, refl);
      one_number_of_each_kind = (refl, refl);
      unmap_past_the_last_page = (refl, refl);
      unmap_while_drained_in_reset = (refl, refl);
      unmap_while_invalidating_in_reset = (refl, refl);
      unmap_after_the_invalidation = (refl, refl);
      page_named_twice = (refl, refl);
      page_request_for_neither = (refl, refl);
      other_verdicts_need_no_frame = (refl, refl);
      success_that_is_none = (refl, refl);
      job_of_a_lost_binding = (refl, refl);
      drain_waits_for_other_pasids = (refl, refl);
      wait_of_an_unmap_does_not_drain = (refl, refl);
      stale_groups_keep_their_requests = (refl, refl);
      unfinished_where_disabled = (refl, refl);
      unfinished_without_credit = (refl, refl);
      group_while_stopping = (refl, refl);
      group_of_another_pasid = (refl, refl);
      second_reset = (refl, refl);
      doomed_requests_are_out = (refl, refl);
      failure_before_the_stop = (refl, refl);
      earlier_waits_in_reset = (refl, refl);
      orders_down_stay_in_order = (refl, refl);
      stop_behind_an_invalidate = (refl, refl);
    }
