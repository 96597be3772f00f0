use Rattle.std.specs.Prelude.{refl}
use Rattle.sva_model.specs.Words.{lowest, any_below, all_below, count_below, select, tabulate}
use Rattle.sva_model.specs.Steps.{replies}
use Rattle.sva_refinement.proofs.by_names.names.Goals as goal

pub returns-clause-numbers_apart : goal.returns-clause-numbers_apart
unfolding lowest any_below all_below count_below select tabulate replies
returns-clause-numbers_apart c = (refl, refl)

pub returns-clause-numbers_apart_as_sent : goal.returns-clause-numbers_apart_as_sent
unfolding lowest any_below all_below count_below select tabulate
returns-clause-numbers_apart_as_sent c = refl

pub returns-clause-numbers_apart_as_ordered : goal.returns-clause-numbers_apart_as_ordered
unfolding lowest any_below all_below count_below select tabulate
returns-clause-numbers_apart_as_ordered c = refl

pub returns-clause-other_endpoint_as_ordered : goal.returns-clause-other_endpoint_as_ordered
unfolding lowest any_below all_below count_below select tabulate
returns-clause-other_endpoint_as_ordered c = refl

pub returns-clause-cookies_of_the_first : goal.returns-clause-cookies_of_the_first
unfolding lowest any_below all_below count_below select tabulate
returns-clause-cookies_of_the_first c = refl

pub returns-clause-cookies_of_the_one_in_reset : goal.returns-clause-cookies_of_the_one_in_reset
unfolding lowest any_below all_below count_below select tabulate
returns-clause-cookies_of_the_one_in_reset c = refl

pub returns-clause-cookies_of_the_last : goal.returns-clause-cookies_of_the_last
unfolding lowest any_below all_below count_below select tabulate
returns-clause-cookies_of_the_last c = refl

pub returns-clause-no_translation_as_sent : goal.returns-clause-no_translation_as_sent
unfolding lowest any_below all_below count_below select tabulate
returns-clause-no_translation_as_sent c = refl

pub returns-clause-full_queue_of_one_unit : goal.returns-clause-full_queue_of_one_unit
unfolding lowest any_below all_below count_below select tabulate replies
returns-clause-full_queue_of_one_unit c = (refl, refl)

pub returns-clause-numbers_below_the_first : goal.returns-clause-numbers_below_the_first
unfolding lowest any_below all_below count_below select tabulate replies
returns-clause-numbers_below_the_first c = (refl, refl)

pub returns-clause-quit_of_one_of_two : goal.returns-clause-quit_of_one_of_two
unfolding lowest any_below all_below count_below select tabulate replies
returns-clause-quit_of_one_of_two c = (refl, refl)

pub returns-clause-second_job_of_an_endpoint : goal.returns-clause-second_job_of_an_endpoint
unfolding lowest any_below all_below count_below select tabulate replies
returns-clause-second_job_of_an_endpoint c = (refl, refl)

pub returns-clause-full_queue_of_a_binding : goal.returns-clause-full_queue_of_a_binding
unfolding lowest any_below all_below count_below select tabulate replies
returns-clause-full_queue_of_a_binding c = (refl, refl)

pub returns-clause-past_older_messages : goal.returns-clause-past_older_messages
unfolding lowest any_below all_below count_below select tabulate replies
returns-clause-past_older_messages c = (refl, refl)

pub returns-clause-newer_answer_in_place : goal.returns-clause-newer_answer_in_place
unfolding lowest any_below all_below count_below select tabulate replies
returns-clause-newer_answer_in_place c = (refl, refl)

pub returns-clause-second_unmap : goal.returns-clause-second_unmap
unfolding lowest any_below all_below count_below select tabulate replies
returns-clause-second_unmap c = (refl, refl)

pub returns-clause-tags_given_back : goal.returns-clause-tags_given_back
unfolding lowest any_below all_below count_below select tabulate replies
returns-clause-tags_given_back c = (refl, refl)

pub returns-clause-numbers_apart_as_asked : goal.returns-clause-numbers_apart_as_asked
unfolding lowest any_below all_below count_below select tabulate replies
returns-clause-numbers_apart_as_asked c = (refl, refl)
