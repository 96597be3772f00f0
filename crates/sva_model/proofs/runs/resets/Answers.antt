use Rattle.std.specs.Prelude.{refl}
use Rattle.sva_model.specs.Words.{lowest, any_below, all_below, count_below, select, tabulate}
use Rattle.sva_model.specs.Steps.{replies}
use Rattle.sva_model.proofs.runs.resets.Goals as goal

pub returns-clause-silent_endpoint : goal.returns-clause-silent_endpoint
unfolding lowest any_below all_below count_below select tabulate replies
returns-clause-silent_endpoint c = (refl, refl)

pub returns-clause-reset_and_tags : goal.returns-clause-reset_and_tags
unfolding lowest any_below all_below count_below select tabulate replies
returns-clause-reset_and_tags c = (refl, refl)

pub returns-clause-old_job : goal.returns-clause-old_job
unfolding lowest any_below all_below count_below select tabulate replies
returns-clause-old_job c = (refl, refl)

pub returns-clause-reset_of_a_live_binding : goal.returns-clause-reset_of_a_live_binding
unfolding lowest any_below all_below count_below select tabulate replies
returns-clause-reset_of_a_live_binding c = (refl, refl)

pub returns-clause-two_endpoints_one_silent : goal.returns-clause-two_endpoints_one_silent
unfolding lowest any_below all_below count_below select tabulate replies
returns-clause-two_endpoints_one_silent c = (refl, refl)
