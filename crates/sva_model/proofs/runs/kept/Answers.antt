use Rattle.std.specs.Prelude.{refl}
use Rattle.sva_model.specs.Words.{lowest, any_below, all_below, count_below, select, tabulate}
use Rattle.sva_model.specs.Wire.{pages_below}
use Rattle.sva_model.proofs.runs.kept.Goals as goal

pub returns-clause-invalidations_under_way : goal.returns-clause-invalidations_under_way
unfolding lowest any_below all_below count_below select tabulate pages_below
returns-clause-invalidations_under_way c = refl

pub returns-clause-groups_under_way : goal.returns-clause-groups_under_way
unfolding lowest any_below all_below count_below select tabulate pages_below
returns-clause-groups_under_way c = (refl, refl, refl)

pub returns-clause-two_targets : goal.returns-clause-two_targets
unfolding lowest any_below all_below count_below select tabulate pages_below
returns-clause-two_targets c = refl

pub returns-clause-drained : goal.returns-clause-drained
unfolding lowest any_below all_below count_below select tabulate pages_below
returns-clause-drained c = (refl, refl, refl, refl)

pub returns-clause-ranges_queued : goal.returns-clause-ranges_queued
unfolding lowest any_below all_below count_below select tabulate pages_below
returns-clause-ranges_queued c = refl

pub returns-clause-jobs_queued : goal.returns-clause-jobs_queued
unfolding lowest any_below all_below count_below select tabulate pages_below
returns-clause-jobs_queued c = refl
