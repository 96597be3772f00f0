use Rattle.std.specs.Prelude.{refl}
use Rattle.sva_model.specs.Words.{lowest, any_below, all_below, count_below, select, tabulate}
use Rattle.sva_model.specs.Steps.{replies}
use Rattle.sva_model.proofs.runs.answers.Goals as goal

pub returns-clause-invalidations_under_way : goal.returns-clause-invalidations_under_way
unfolding lowest any_below all_below count_below select tabulate replies
returns-clause-invalidations_under_way c = (refl, refl)

pub returns-clause-groups_under_way : goal.returns-clause-groups_under_way
unfolding lowest any_below all_below count_below select tabulate replies
returns-clause-groups_under_way c = (refl, refl)

pub returns-clause-two_targets : goal.returns-clause-two_targets
unfolding lowest any_below all_below count_below select tabulate replies
returns-clause-two_targets c = (refl, refl)

pub returns-clause-drained : goal.returns-clause-drained
unfolding lowest any_below all_below count_below select tabulate replies
returns-clause-drained c = (refl, refl)

pub returns-clause-ranges_queued : goal.returns-clause-ranges_queued
unfolding lowest any_below all_below count_below select tabulate replies
returns-clause-ranges_queued c = (refl, refl)

pub returns-clause-jobs_queued : goal.returns-clause-jobs_queued
unfolding lowest any_below all_below count_below select tabulate replies
returns-clause-jobs_queued c = (refl, refl)
