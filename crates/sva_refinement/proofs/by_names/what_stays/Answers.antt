use Rattle.std.specs.Prelude.{refl}
use Rattle.sva_model.specs.Words.{lowest, any_below, all_below, count_below, select, tabulate}
use Rattle.sva_model.specs.Steps.{replies}
use Rattle.sva_model.specs.Wire.{pages_below}
use Rattle.sva_refinement.proofs.by_names.what_stays.Goals as goal

pub returns-clause-same_page_of_two_pasids : goal.returns-clause-same_page_of_two_pasids
unfolding lowest any_below all_below count_below select tabulate replies
returns-clause-same_page_of_two_pasids c = (refl, refl)

pub returns-clause-evict_of_one_page : goal.returns-clause-evict_of_one_page
unfolding lowest any_below all_below count_below select tabulate replies
returns-clause-evict_of_one_page c = (refl, refl)

pub returns-clause-no_translation_beside_an_older : goal.returns-clause-no_translation_beside_an_older
unfolding lowest any_below all_below count_below select tabulate replies
returns-clause-no_translation_beside_an_older c = (refl, refl)

pub returns-clause-cache_full_of_two : goal.returns-clause-cache_full_of_two
unfolding lowest any_below all_below count_below select tabulate replies
returns-clause-cache_full_of_two c = (refl, refl)

pub returns-clause-unmapped_while_invalidating : goal.returns-clause-unmapped_while_invalidating
unfolding lowest any_below all_below count_below select tabulate pages_below
returns-clause-unmapped_while_invalidating c = refl

pub returns-clause-one_of_two_answered : goal.returns-clause-one_of_two_answered
unfolding lowest any_below all_below count_below select tabulate pages_below
returns-clause-one_of_two_answered c = refl

pub returns-clause-use_behind_an_invalidation : goal.returns-clause-use_behind_an_invalidation
unfolding lowest any_below all_below count_below select tabulate pages_below
returns-clause-use_behind_an_invalidation c = refl

pub returns-clause-cached_by_pasid : goal.returns-clause-cached_by_pasid
unfolding lowest any_below all_below count_below select tabulate pages_below
returns-clause-cached_by_pasid c = refl

pub returns-clause-group_filed_in_part : goal.returns-clause-group_filed_in_part
unfolding lowest any_below all_below count_below select tabulate pages_below
returns-clause-group_filed_in_part c = refl

pub returns-clause-second_group_of_an_index : goal.returns-clause-second_group_of_an_index
unfolding lowest any_below all_below count_below select tabulate pages_below
returns-clause-second_group_of_an_index c = (refl, refl)

pub returns-clause-nothing_else_is_ordered : goal.returns-clause-nothing_else_is_ordered
returns-clause-nothing_else_is_ordered c = refl

pub returns-clause-doomed_answer_beside_a_newer : goal.returns-clause-doomed_answer_beside_a_newer
unfolding lowest any_below all_below count_below select tabulate replies
returns-clause-doomed_answer_beside_a_newer c = (refl, refl)
