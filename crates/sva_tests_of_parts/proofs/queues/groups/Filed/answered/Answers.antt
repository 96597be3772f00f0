use Rattle.std.proofs.Common.{sym, subst}
use Rattle.sva_tests_of_parts.specs.Few.{HasFew}
use Rattle.sva_tests_of_parts.proofs.FewRequests.{answered_has_few}
use Rattle.sva_tests_of_parts.proofs.queues.groups.Filed.answered.Goals as goal

pub invariant_of-self : goal.invariant_of-self
invariant_of-self c =
    let old = c.args.self.now in
    record { few = subst (HasFew old.requests) (sym c.answered.ensures) (answered_has_few old.requests _ old.groups old.few) }
