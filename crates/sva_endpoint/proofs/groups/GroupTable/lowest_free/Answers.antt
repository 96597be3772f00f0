use Rattle.std.proofs.Common.{◌∙◌, subst, sym, length, ap}
use Rattle.sva_endpoint.specs.Groups.{HaveRequests}
use Rattle.sva_endpoint.proofs.GroupFacts.{index_with_credit}
use Rattle.sva_endpoint.proofs.groups.GroupTable.lowest_free.Goals as goal

pub unreachable-requires : goal.unreachable-requires
unreachable-requires c =
    index_with_credit c.args.self.now (subst HaveRequests c.self.view_is c.self.invariant.3) (ap length (sym c.self.view_is) ∙ c.self.invariant.0) c.requires
    (sym c.first_free.ensures.found ∙ c.in-None.is)
