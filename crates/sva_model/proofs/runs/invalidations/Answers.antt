use Rattle.std.specs.Prelude.{refl}
use Rattle.sva_model.specs.Words.{lowest, any_below, all_below, count_below, select, tabulate}
use Rattle.sva_model.specs.Steps.{replies}
use Rattle.sva_model.proofs.runs.invalidations.Goals as goal

pub returns-clause-count_of_eight : goal.returns-clause-count_of_eight
unfolding lowest any_below all_below count_below select tabulate replies
returns-clause-count_of_eight c = (refl, refl)

pub returns-clause-one_vector_for_three : goal.returns-clause-one_vector_for_three
unfolding lowest any_below all_below count_below select tabulate replies
returns-clause-one_vector_for_three c = (refl, refl)

pub returns-clause-all_tags_busy : goal.returns-clause-all_tags_busy
unfolding lowest any_below all_below count_below select tabulate replies
returns-clause-all_tags_busy c = (refl, refl)

pub returns-clause-unbind_stage_by_stage : goal.returns-clause-unbind_stage_by_stage
unfolding lowest any_below all_below count_below select tabulate replies
returns-clause-unbind_stage_by_stage c = (refl, refl)

pub returns-clause-unmap_while_invalidating : goal.returns-clause-unmap_while_invalidating
unfolding lowest any_below all_below count_below select tabulate replies
returns-clause-unmap_while_invalidating c = (refl, refl)
