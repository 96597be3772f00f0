use Rattle.std.specs.Prelude.{refl}
use Rattle.sva_model.specs.Words.{lowest, any_below, all_below, count_below, select, tabulate}
use Rattle.sva_model.specs.Steps.{replies}
use Rattle.sva_refinement.proofs.by_names.deliveries.Goals as goal

pub returns-clause-start_and_stop_in_reset : goal.returns-clause-start_and_stop_in_reset
unfolding lowest any_below all_below count_below select tabulate replies
returns-clause-start_and_stop_in_reset c = (refl, refl)

pub returns-clause-start_before_the_reset : goal.returns-clause-start_before_the_reset
unfolding lowest any_below all_below count_below select tabulate replies
returns-clause-start_before_the_reset c = (refl, refl)

pub returns-clause-invalidate_in_reset : goal.returns-clause-invalidate_in_reset
unfolding lowest any_below all_below count_below select tabulate replies
returns-clause-invalidate_in_reset c = (refl, refl)

pub returns-clause-response_in_reset : goal.returns-clause-response_in_reset
unfolding lowest any_below all_below count_below select tabulate replies
returns-clause-response_in_reset c = (refl, refl)

pub returns-clause-stale_response_in_reset : goal.returns-clause-stale_response_in_reset
unfolding lowest any_below all_below count_below select tabulate replies
returns-clause-stale_response_in_reset c = (refl, refl)

pub returns-clause-completions_in_reset : goal.returns-clause-completions_in_reset
unfolding lowest any_below all_below count_below select tabulate replies
returns-clause-completions_in_reset c = (refl, refl)

pub returns-clause-completions_at_an_open_unit : goal.returns-clause-completions_at_an_open_unit
unfolding lowest any_below all_below count_below select tabulate replies
returns-clause-completions_at_an_open_unit c = (refl, refl)

pub returns-clause-doomed_without_translation : goal.returns-clause-doomed_without_translation
unfolding lowest any_below all_below count_below select tabulate replies
returns-clause-doomed_without_translation c = (refl, refl)

pub returns-clause-cache_full_in_reset : goal.returns-clause-cache_full_in_reset
unfolding lowest any_below all_below count_below select tabulate replies
returns-clause-cache_full_in_reset c = (refl, refl)

pub returns-clause-responses_by_code : goal.returns-clause-responses_by_code
unfolding lowest any_below all_below count_below select tabulate replies
returns-clause-responses_by_code c = (refl, refl)

pub returns-clause-messages_up_in_reset : goal.returns-clause-messages_up_in_reset
unfolding lowest any_below all_below count_below select tabulate replies
returns-clause-messages_up_in_reset c = (refl, refl)

pub returns-clause-vectors_of_two_counts : goal.returns-clause-vectors_of_two_counts
unfolding lowest any_below all_below count_below select tabulate replies
returns-clause-vectors_of_two_counts c = (refl, refl)

pub returns-clause-own_reset : goal.returns-clause-own_reset
unfolding lowest any_below all_below count_below select tabulate replies
returns-clause-own_reset c = (refl, refl)

pub returns-clause-each_kind_as_sent : goal.returns-clause-each_kind_as_sent
unfolding lowest any_below all_below count_below select tabulate replies
returns-clause-each_kind_as_sent c = refl

pub returns-clause-count_fields_as_sent : goal.returns-clause-count_fields_as_sent
unfolding lowest any_below all_below count_below select tabulate replies
returns-clause-count_fields_as_sent c = refl
