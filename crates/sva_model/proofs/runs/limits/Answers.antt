use Rattle.std.specs.Prelude.{refl}
use Rattle.sva_model.specs.Words.{lowest, any_below, all_below, count_below, select, tabulate}
use Rattle.sva_model.specs.Steps.{replies}
use Rattle.sva_model.proofs.runs.limits.Goals as goal

pub returns-clause-request_tags_spent : goal.returns-clause-request_tags_spent
unfolding lowest any_below all_below count_below select tabulate replies
returns-clause-request_tags_spent c = (refl, refl)

pub returns-clause-use_slots_spent : goal.returns-clause-use_slots_spent
unfolding lowest any_below all_below count_below select tabulate replies
returns-clause-use_slots_spent c = (refl, refl)

pub returns-clause-cache_full : goal.returns-clause-cache_full
unfolding lowest any_below all_below count_below select tabulate replies
returns-clause-cache_full c = (refl, refl)

pub returns-clause-pasids_spent : goal.returns-clause-pasids_spent
unfolding lowest any_below all_below count_below select tabulate replies
returns-clause-pasids_spent c = (refl, refl)

pub returns-clause-page_numbers : goal.returns-clause-page_numbers
unfolding lowest any_below all_below count_below select tabulate replies
returns-clause-page_numbers c = (refl, refl)

pub returns-clause-page_requests_spent : goal.returns-clause-page_requests_spent
unfolding lowest any_below all_below count_below select tabulate replies
returns-clause-page_requests_spent c = (refl, refl)

pub returns-clause-queue_of_sixty_four : goal.returns-clause-queue_of_sixty_four
unfolding lowest any_below all_below count_below select tabulate replies
returns-clause-queue_of_sixty_four c = (refl, refl)

pub returns-clause-spaces_spent : goal.returns-clause-spaces_spent
unfolding lowest any_below all_below count_below select tabulate replies
returns-clause-spaces_spent c = (refl, refl)

pub returns-clause-pages_of_an_unmap : goal.returns-clause-pages_of_an_unmap
unfolding lowest any_below all_below count_below select tabulate replies
returns-clause-pages_of_an_unmap c = (refl, refl)

pub returns-clause-numbers_spent_at_the_end : goal.returns-clause-numbers_spent_at_the_end
unfolding lowest any_below all_below count_below select tabulate replies
returns-clause-numbers_spent_at_the_end c = (refl, refl)
