use Rattle.std.specs.Prelude.{refl}
use Rattle.sva_model.specs.Words.{lowest, any_below, all_below, count_below, select, tabulate}
use Rattle.sva_model.specs.Steps.{replies}
use Rattle.sva_refinement.proofs.by_names.boundaries.Goals as goal

pub returns-clause-messages_spent_before_bindings : goal.returns-clause-messages_spent_before_bindings
unfolding lowest any_below all_below count_below select tabulate replies
returns-clause-messages_spent_before_bindings c = (refl, refl)

pub returns-clause-last_number_of_a_reset : goal.returns-clause-last_number_of_a_reset
unfolding lowest any_below all_below count_below select tabulate replies
returns-clause-last_number_of_a_reset c = (refl, refl)

pub returns-clause-last_number_of_a_completion : goal.returns-clause-last_number_of_a_completion
unfolding lowest any_below all_below count_below select tabulate replies
returns-clause-last_number_of_a_completion c = (refl, refl)

pub returns-clause-last_cookie_of_a_drain : goal.returns-clause-last_cookie_of_a_drain
unfolding lowest any_below all_below count_below select tabulate replies
returns-clause-last_cookie_of_a_drain c = (refl, refl)

pub returns-clause-last_cookie_of_an_invalidation : goal.returns-clause-last_cookie_of_an_invalidation
unfolding lowest any_below all_below count_below select tabulate replies
returns-clause-last_cookie_of_an_invalidation c = (refl, refl)

pub returns-clause-no_cookie_in_reset : goal.returns-clause-no_cookie_in_reset
unfolding lowest any_below all_below count_below select tabulate replies
returns-clause-no_cookie_in_reset c = (refl, refl)

pub returns-clause-quiet_needs_no_room : goal.returns-clause-quiet_needs_no_room
unfolding lowest any_below all_below count_below select tabulate replies
returns-clause-quiet_needs_no_room c = (refl, refl)

pub returns-clause-full_space_and_another : goal.returns-clause-full_space_and_another
unfolding lowest any_below all_below count_below select tabulate replies
returns-clause-full_space_and_another c = (refl, refl)

pub returns-clause-last_page_and_last_frame : goal.returns-clause-last_page_and_last_frame
unfolding lowest any_below all_below count_below select tabulate replies
returns-clause-last_page_and_last_frame c = (refl, refl)

pub returns-clause-greatest_page : goal.returns-clause-greatest_page
unfolding lowest any_below all_below count_below select tabulate replies
returns-clause-greatest_page c = (refl, refl)

pub returns-clause-held_before_writable : goal.returns-clause-held_before_writable
unfolding lowest any_below all_below count_below select tabulate replies
returns-clause-held_before_writable c = (refl, refl)

pub returns-clause-last_slot_and_last_tag : goal.returns-clause-last_slot_and_last_tag
unfolding lowest any_below all_below count_below select tabulate replies
returns-clause-last_slot_and_last_tag c = (refl, refl)

pub returns-clause-stages_in_reset : goal.returns-clause-stages_in_reset
unfolding lowest any_below all_below count_below select tabulate replies
returns-clause-stages_in_reset c = (refl, refl)

pub returns-clause-unmap_in_each_stage : goal.returns-clause-unmap_in_each_stage
unfolding lowest any_below all_below count_below select tabulate replies
returns-clause-unmap_in_each_stage c = (refl, refl)

pub returns-clause-unmap_while_stopping_in_reset : goal.returns-clause-unmap_while_stopping_in_reset
unfolding lowest any_below all_below count_below select tabulate replies
returns-clause-unmap_while_stopping_in_reset c = (refl, refl)

pub returns-clause-waits_after_an_early_reset : goal.returns-clause-waits_after_an_early_reset
unfolding lowest any_below all_below count_below select tabulate replies
returns-clause-waits_after_an_early_reset c = (refl, refl)

pub returns-clause-credit_after_a_reset : goal.returns-clause-credit_after_a_reset
unfolding lowest any_below all_below count_below select tabulate replies
returns-clause-credit_after_a_reset c = (refl, refl)

pub returns-clause-orders_over_after_a_reset : goal.returns-clause-orders_over_after_a_reset
unfolding lowest any_below all_below count_below select tabulate replies
returns-clause-orders_over_after_a_reset c = (refl, refl)

pub returns-clause-labels_back_in_reset : goal.returns-clause-labels_back_in_reset
unfolding lowest any_below all_below count_below select tabulate replies
returns-clause-labels_back_in_reset c = (refl, refl)

pub returns-clause-no_step : goal.returns-clause-no_step
unfolding lowest any_below all_below count_below select tabulate replies
returns-clause-no_step c = (refl, refl)

pub returns-clause-evict_in_reset : goal.returns-clause-evict_in_reset
unfolding lowest any_below all_below count_below select tabulate replies
returns-clause-evict_in_reset c = (refl, refl)

pub returns-clause-limits_of_a_config : goal.returns-clause-limits_of_a_config
returns-clause-limits_of_a_config c =
    λ limits. (
      λ f. (f.some_endpoint, f.most_endpoints, f.some_frame, f.most_frames, f.some_worker, f.most_workers, f.first_number),
      λ x. record {
        some_endpoint = x.0;
        most_endpoints = x.1;
        some_frame = x.2;
        most_frames = x.3;
        some_worker = x.4;
        most_workers = x.5;
        first_number = x.6;
      },
    )
