use Rattle.std.proofs.Common.{sym, subst}
use Rattle.sva_tests_of_parts.specs.Few.{HasFew}
use Rattle.sva_tests_of_parts.proofs.FewRequests.{dropped_has_few}
use Rattle.sva_tests_of_parts.proofs.queues.groups.Filed.drop_unit.Goals as goal

pub invariant_of-self : goal.invariant_of-self
invariant_of-self c =
    let old = c.args.self.now in
    record { few = subst (HasFew old.requests) (sym c.drop_unit.ensures) (dropped_has_few old.requests c.args.unit old.groups old.few) }
