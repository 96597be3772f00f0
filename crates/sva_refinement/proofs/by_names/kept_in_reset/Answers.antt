use Rattle.std.specs.Prelude.{refl}
use Rattle.sva_model.specs.Words.{lowest, any_below, all_below, count_below, select, tabulate}
use Rattle.sva_model.specs.Steps.{replies}
use Rattle.sva_model.specs.Wire.{pages_below}
use Rattle.sva_refinement.proofs.by_names.kept_in_reset.Goals as goal

pub returns-clause-busy_unit : goal.returns-clause-busy_unit
unfolding lowest any_below all_below count_below select tabulate replies
returns-clause-busy_unit c = (refl, refl)

pub returns-clause-unit_in_reset : goal.returns-clause-unit_in_reset
unfolding lowest any_below all_below count_below select tabulate pages_below
returns-clause-unit_in_reset c = refl

pub returns-clause-endpoint_reset : goal.returns-clause-endpoint_reset
unfolding lowest any_below all_below count_below select tabulate pages_below
returns-clause-endpoint_reset c = refl

pub returns-clause-reset_ended : goal.returns-clause-reset_ended
unfolding lowest any_below all_below count_below select tabulate pages_below
returns-clause-reset_ended c = refl

pub returns-clause-told_to_stop : goal.returns-clause-told_to_stop
unfolding lowest any_below all_below count_below select tabulate replies
returns-clause-told_to_stop c = (refl, refl)

pub returns-clause-ending_and_stale : goal.returns-clause-ending_and_stale
unfolding lowest any_below all_below count_below select tabulate pages_below
returns-clause-ending_and_stale c = (refl, refl)

pub returns-clause-failed_group : goal.returns-clause-failed_group
unfolding lowest any_below all_below count_below select tabulate replies
returns-clause-failed_group c = (refl, refl)

pub returns-clause-disabled_interface : goal.returns-clause-disabled_interface
unfolding lowest any_below all_below count_below select tabulate pages_below
returns-clause-disabled_interface c = refl
