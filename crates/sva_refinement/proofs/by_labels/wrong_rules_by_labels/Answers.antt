use Rattle.std.specs.Prelude.{refl}
use Rattle.sva_model.specs.Words.{lowest, any_below, all_below, count_below, select, tabulate}
use Rattle.sva_labels.specs.Host.{replies_of}
use Rattle.sva_refinement.specs.ByLabels.{counts_after}
use Rattle.sva_refinement.proofs.by_labels.wrong_rules_by_labels.Goals as goal

pub returns : goal.returns
unfolding lowest any_below all_below count_below select tabulate replies_of counts_after
returns c =
    record {
      not_free_when_sent = (refl, refl);
      not_free_when_taken = (refl, refl);
      not_free_at_the_reset = (refl, refl);
      not_free_when_unmapped_in_reset = (refl, refl);
      not_freed_at_the_first_of_two = (refl, refl);
      not_none_of_eight = (refl, refl);
      doomed_answer_not_kept = (refl, refl);
      doomed_answer_not_kept_later = (refl, refl);
      doomed_tag_not_given_back = (refl, refl);
      not_finished_while_a_use_runs = (refl, refl);
      no_use_held_against_another = (refl, refl);
      no_drain_past_a_page_request = (refl, refl);
      no_response_by_an_unbind = (refl, refl);
      no_response_in_reset = (refl, refl);
      not_withheld_past_the_last_wait = (refl, refl);
      no_page_invalidation_while_invalidating = (refl, refl);
      not_free_while_invalidating = (refl, refl);
      no_reset_done_past_older_messages = (refl, refl);
      not_released_while_invalidating = (refl, refl);
      not_released_while_quiet = (refl, refl);
      no_marker_past_page_requests = (refl, refl);
      no_wait_past_a_busy_tag = (refl, refl);
      no_use_left_by_a_reset = (refl, refl);
      no_index_given_back_by_a_quit = (refl, refl);
      no_quit_while_a_use_runs = (refl, refl);
      no_quit_while_a_request_is_out = (refl, refl);
      no_translation_while_stopping = (refl, refl);
      no_translation_of_another_space = (refl, refl);
      nothing_else_invalidated = (refl, refl);
      nothing_of_a_pasid_left = (refl, refl);
    }
