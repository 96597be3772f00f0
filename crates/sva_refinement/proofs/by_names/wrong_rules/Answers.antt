use Rattle.std.specs.Prelude.{refl}
use Rattle.sva_model.specs.Words.{lowest, any_below, all_below, count_below, select, tabulate}
use Rattle.sva_model.specs.Steps.{replies}
use Rattle.sva_refinement.proofs.by_names.wrong_rules.Goals as goal

pub returns-clause-not_free_when_sent : goal.returns-clause-not_free_when_sent
unfolding lowest any_below all_below count_below select tabulate replies
returns-clause-not_free_when_sent c = (refl, refl)

pub returns-clause-not_free_when_taken : goal.returns-clause-not_free_when_taken
unfolding lowest any_below all_below count_below select tabulate replies
returns-clause-not_free_when_taken c = (refl, refl)

pub returns-clause-not_free_at_the_reset : goal.returns-clause-not_free_at_the_reset
unfolding lowest any_below all_below count_below select tabulate replies
returns-clause-not_free_at_the_reset c = (refl, refl)

pub returns-clause-not_free_when_unmapped_in_reset : goal.returns-clause-not_free_when_unmapped_in_reset
unfolding lowest any_below all_below count_below select tabulate replies
returns-clause-not_free_when_unmapped_in_reset c = (refl, refl)

pub returns-clause-not_freed_at_the_first_of_two : goal.returns-clause-not_freed_at_the_first_of_two
unfolding lowest any_below all_below count_below select tabulate replies
returns-clause-not_freed_at_the_first_of_two c = (refl, refl)

pub returns-clause-not_none_of_eight : goal.returns-clause-not_none_of_eight
unfolding lowest any_below all_below count_below select tabulate replies
returns-clause-not_none_of_eight c = (refl, refl)

pub returns-clause-doomed_answer_not_kept : goal.returns-clause-doomed_answer_not_kept
unfolding lowest any_below all_below count_below select tabulate replies
returns-clause-doomed_answer_not_kept c = (refl, refl)

pub returns-clause-doomed_answer_not_kept_later : goal.returns-clause-doomed_answer_not_kept_later
unfolding lowest any_below all_below count_below select tabulate replies
returns-clause-doomed_answer_not_kept_later c = (refl, refl)

pub returns-clause-doomed_tag_not_given_back : goal.returns-clause-doomed_tag_not_given_back
unfolding lowest any_below all_below count_below select tabulate replies
returns-clause-doomed_tag_not_given_back c = (refl, refl)

pub returns-clause-not_finished_while_a_use_runs : goal.returns-clause-not_finished_while_a_use_runs
unfolding lowest any_below all_below count_below select tabulate replies
returns-clause-not_finished_while_a_use_runs c = (refl, refl)

pub returns-clause-no_use_held_against_another : goal.returns-clause-no_use_held_against_another
unfolding lowest any_below all_below count_below select tabulate replies
returns-clause-no_use_held_against_another c = (refl, refl)

pub returns-clause-no_drain_past_a_page_request : goal.returns-clause-no_drain_past_a_page_request
unfolding lowest any_below all_below count_below select tabulate replies
returns-clause-no_drain_past_a_page_request c = (refl, refl)

pub returns-clause-no_response_by_an_unbind : goal.returns-clause-no_response_by_an_unbind
unfolding lowest any_below all_below count_below select tabulate replies
returns-clause-no_response_by_an_unbind c = (refl, refl)

pub returns-clause-no_response_in_reset : goal.returns-clause-no_response_in_reset
unfolding lowest any_below all_below count_below select tabulate replies
returns-clause-no_response_in_reset c = (refl, refl)

pub returns-clause-not_withheld_past_the_last_wait : goal.returns-clause-not_withheld_past_the_last_wait
unfolding lowest any_below all_below count_below select tabulate replies
returns-clause-not_withheld_past_the_last_wait c = (refl, refl)

pub returns-clause-no_page_invalidation_while_invalidating : goal.returns-clause-no_page_invalidation_while_invalidating
unfolding lowest any_below all_below count_below select tabulate replies
returns-clause-no_page_invalidation_while_invalidating c = (refl, refl)

pub returns-clause-not_free_while_invalidating : goal.returns-clause-not_free_while_invalidating
unfolding lowest any_below all_below count_below select tabulate replies
returns-clause-not_free_while_invalidating c = (refl, refl)

pub returns-clause-no_reset_done_past_older_messages : goal.returns-clause-no_reset_done_past_older_messages
unfolding lowest any_below all_below count_below select tabulate replies
returns-clause-no_reset_done_past_older_messages c = (refl, refl)

pub returns-clause-not_released_while_invalidating : goal.returns-clause-not_released_while_invalidating
unfolding lowest any_below all_below count_below select tabulate replies
returns-clause-not_released_while_invalidating c = (refl, refl)

pub returns-clause-not_released_while_quiet : goal.returns-clause-not_released_while_quiet
unfolding lowest any_below all_below count_below select tabulate replies
returns-clause-not_released_while_quiet c = (refl, refl)

pub returns-clause-no_marker_past_page_requests : goal.returns-clause-no_marker_past_page_requests
unfolding lowest any_below all_below count_below select tabulate replies
returns-clause-no_marker_past_page_requests c = (refl, refl)

pub returns-clause-no_wait_past_a_busy_tag : goal.returns-clause-no_wait_past_a_busy_tag
unfolding lowest any_below all_below count_below select tabulate replies
returns-clause-no_wait_past_a_busy_tag c = (refl, refl)

pub returns-clause-no_use_left_by_a_reset : goal.returns-clause-no_use_left_by_a_reset
unfolding lowest any_below all_below count_below select tabulate replies
returns-clause-no_use_left_by_a_reset c = (refl, refl)

pub returns-clause-no_index_given_back_by_a_quit : goal.returns-clause-no_index_given_back_by_a_quit
unfolding lowest any_below all_below count_below select tabulate replies
returns-clause-no_index_given_back_by_a_quit c = (refl, refl)

pub returns-clause-no_quit_while_a_use_runs : goal.returns-clause-no_quit_while_a_use_runs
unfolding lowest any_below all_below count_below select tabulate replies
returns-clause-no_quit_while_a_use_runs c = (refl, refl)

pub returns-clause-no_quit_while_a_request_is_out : goal.returns-clause-no_quit_while_a_request_is_out
unfolding lowest any_below all_below count_below select tabulate replies
returns-clause-no_quit_while_a_request_is_out c = (refl, refl)

pub returns-clause-no_translation_while_stopping : goal.returns-clause-no_translation_while_stopping
unfolding lowest any_below all_below count_below select tabulate replies
returns-clause-no_translation_while_stopping c = (refl, refl)

pub returns-clause-no_translation_of_another_space : goal.returns-clause-no_translation_of_another_space
unfolding lowest any_below all_below count_below select tabulate replies
returns-clause-no_translation_of_another_space c = (refl, refl)

pub returns-clause-nothing_else_invalidated : goal.returns-clause-nothing_else_invalidated
unfolding lowest any_below all_below count_below select tabulate replies
returns-clause-nothing_else_invalidated c = (refl, refl)

pub returns-clause-nothing_of_a_pasid_left : goal.returns-clause-nothing_of_a_pasid_left
unfolding lowest any_below all_below count_below select tabulate replies
returns-clause-nothing_of_a_pasid_left c = (refl, refl)
