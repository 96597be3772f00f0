use Rattle.std.specs.Prelude.{refl}
use Rattle.sva_model.specs.Words.{lowest, any_below, all_below, count_below, select, tabulate}
use Rattle.sva_model.specs.Steps.{replies}
use Rattle.sva_model.proofs.runs.final_rules.Goals as goal

pub returns-clause-range_of_eight : goal.returns-clause-range_of_eight
unfolding lowest any_below all_below count_below select tabulate replies
returns-clause-range_of_eight c = (refl, refl)

pub returns-clause-causes_of_unmap_range : goal.returns-clause-causes_of_unmap_range
unfolding lowest any_below all_below count_below select tabulate replies
returns-clause-causes_of_unmap_range c = (refl, refl)

pub returns-clause-one_pasid_for_each_space : goal.returns-clause-one_pasid_for_each_space
unfolding lowest any_below all_below count_below select tabulate replies
returns-clause-one_pasid_for_each_space c = (refl, refl)

pub returns-clause-first_release_of_two : goal.returns-clause-first_release_of_two
unfolding lowest any_below all_below count_below select tabulate replies
returns-clause-first_release_of_two c = (refl, refl)
