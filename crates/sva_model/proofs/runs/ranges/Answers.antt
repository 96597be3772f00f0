use Rattle.std.specs.Prelude.{refl}
use Rattle.sva_model.specs.Words.{lowest, any_below, all_below, count_below, select, tabulate}
use Rattle.sva_model.specs.Steps.{replies}
use Rattle.sva_model.proofs.runs.ranges.Goals as goal

pub returns-clause-range_into_a_full_queue : goal.returns-clause-range_into_a_full_queue
unfolding lowest any_below all_below count_below select tabulate replies
returns-clause-range_into_a_full_queue c = (refl, refl)

pub returns-clause-cookies_of_a_range : goal.returns-clause-cookies_of_a_range
unfolding lowest any_below all_below count_below select tabulate replies
returns-clause-cookies_of_a_range c = (refl, refl)

pub returns-clause-range_at_two_endpoints : goal.returns-clause-range_at_two_endpoints
unfolding lowest any_below all_below count_below select tabulate replies
returns-clause-range_at_two_endpoints c = (refl, refl)

pub returns-clause-range_at_the_first : goal.returns-clause-range_at_the_first
unfolding lowest any_below all_below count_below select tabulate
returns-clause-range_at_the_first c = refl

pub returns-clause-range_at_the_second : goal.returns-clause-range_at_the_second
unfolding lowest any_below all_below count_below select tabulate
returns-clause-range_at_the_second c = refl

pub returns-clause-range_in_reset : goal.returns-clause-range_in_reset
unfolding lowest any_below all_below count_below select tabulate replies
returns-clause-range_in_reset c = (refl, refl)

pub returns-clause-range_while_invalidating : goal.returns-clause-range_while_invalidating
unfolding lowest any_below all_below count_below select tabulate replies
returns-clause-range_while_invalidating c = (refl, refl)

pub returns-clause-range_of_512 : goal.returns-clause-range_of_512
unfolding lowest any_below all_below count_below select tabulate replies
returns-clause-range_of_512 c = (refl, refl)

pub returns-clause-range_of_512_as_sent : goal.returns-clause-range_of_512_as_sent
unfolding lowest any_below all_below count_below select tabulate
returns-clause-range_of_512_as_sent c = refl

pub returns-clause-range_of_the_last_pages : goal.returns-clause-range_of_the_last_pages
unfolding lowest any_below all_below count_below select tabulate replies
returns-clause-range_of_the_last_pages c = (refl, refl)
