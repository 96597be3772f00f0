use Rattle.std.specs.Prelude.{refl}
use Rattle.sva_model.specs.Words.{lowest, any_below, all_below, count_below, select, tabulate}
use Rattle.sva_model.specs.Steps.{replies}
use Rattle.sva_model.proofs.runs.page_requests.Goals as goal

pub returns-clause-page_request_group : goal.returns-clause-page_request_group
unfolding lowest any_below all_below count_below select tabulate replies
returns-clause-page_request_group c = (refl, refl)

pub returns-clause-stale_group : goal.returns-clause-stale_group
unfolding lowest any_below all_below count_below select tabulate replies
returns-clause-stale_group c = (refl, refl)

pub returns-clause-drain_of_two_requests : goal.returns-clause-drain_of_two_requests
unfolding lowest any_below all_below count_below select tabulate replies
returns-clause-drain_of_two_requests c = (refl, refl)

pub returns-clause-verdicts : goal.returns-clause-verdicts
unfolding lowest any_below all_below count_below select tabulate replies
returns-clause-verdicts c = (refl, refl)

pub returns-clause-each_kind_at_an_open_unit : goal.returns-clause-each_kind_at_an_open_unit
unfolding lowest any_below all_below count_below select tabulate replies
returns-clause-each_kind_at_an_open_unit c = (refl, refl)

pub returns-clause-jobs_of_two_endpoints : goal.returns-clause-jobs_of_two_endpoints
unfolding lowest any_below all_below count_below select tabulate replies
returns-clause-jobs_of_two_endpoints c = (refl, refl)
