use Rattle.std.specs.Prelude.{refl}
use Rattle.sva_model.specs.Words.{lowest, any_below, all_below, count_below, select, tabulate}
use Rattle.sva_model.specs.Steps.{replies}
use Rattle.sva_refinement.proofs.by_names.answers.Goals as goal

pub returns-clause-unmapped_while_invalidating : goal.returns-clause-unmapped_while_invalidating
unfolding lowest any_below all_below count_below select tabulate replies
returns-clause-unmapped_while_invalidating c = (refl, refl)

pub returns-clause-one_of_two_answered : goal.returns-clause-one_of_two_answered
unfolding lowest any_below all_below count_below select tabulate replies
returns-clause-one_of_two_answered c = (refl, refl)

pub returns-clause-use_behind_an_invalidation : goal.returns-clause-use_behind_an_invalidation
unfolding lowest any_below all_below count_below select tabulate replies
returns-clause-use_behind_an_invalidation c = (refl, refl)

pub returns-clause-cached_by_pasid : goal.returns-clause-cached_by_pasid
unfolding lowest any_below all_below count_below select tabulate replies
returns-clause-cached_by_pasid c = (refl, refl)

pub returns-clause-group_filed_in_part : goal.returns-clause-group_filed_in_part
unfolding lowest any_below all_below count_below select tabulate replies
returns-clause-group_filed_in_part c = (refl, refl)

pub returns-clause-second_group_of_an_index : goal.returns-clause-second_group_of_an_index
unfolding lowest any_below all_below count_below select tabulate replies
returns-clause-second_group_of_an_index c = (refl, refl)

pub returns-clause-cookies_by_unit : goal.returns-clause-cookies_by_unit
unfolding lowest any_below all_below count_below select tabulate replies
returns-clause-cookies_by_unit c = (refl, refl)

pub returns-clause-no_translation : goal.returns-clause-no_translation
unfolding lowest any_below all_below count_below select tabulate replies
returns-clause-no_translation c = (refl, refl)
