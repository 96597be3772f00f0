use Rattle.sva_prq.proofs.Filing.{jobs_hold_their_requests, unfinished_groups_differ}
use Rattle.sva_prq.proofs.GroupLaws.{groups_are_bounded, open_groups_are_seen, serials_are_new, serials_differ, open_is_exact}
use Rattle.sva_prq.proofs.laws.group_laws.Goals as goal

pub returns-clause-jobs : goal.returns-clause-jobs
returns-clause-jobs c = jobs_hold_their_requests

pub returns-clause-bounded : goal.returns-clause-bounded
returns-clause-bounded c = groups_are_bounded

pub returns-clause-unfinished : goal.returns-clause-unfinished
returns-clause-unfinished c = unfinished_groups_differ

pub returns-clause-seen : goal.returns-clause-seen
returns-clause-seen c = open_groups_are_seen

pub returns-clause-exact : goal.returns-clause-exact
returns-clause-exact c = open_is_exact

pub returns-clause-serials : goal.returns-clause-serials
returns-clause-serials c = serials_differ

pub returns-clause-new : goal.returns-clause-new
returns-clause-new c = serials_are_new
