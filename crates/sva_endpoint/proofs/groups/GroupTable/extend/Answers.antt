use Rattle.std.proofs.Common.{◌≡◌, ◌<◌, subst, sym, false, arith}
use Rattle.std.proofs.lemmas.Grind.{common_steps}
use Rattle.sva_endpoint.specs.Groups.{is_free, requests_of, HaveRequests}
use Rattle.sva_endpoint.proofs.GroupFacts.{HaveRequests-written, HaveRequests-at, requests_of-with_request}
use Rattle.sva_endpoint.proofs.groups.GroupTable.extend.Goals as goal

pub invariant_of-self : goal.invariant_of-self
invariant_of-self c = (
  grind (arith, common_steps),
  grind (arith, common_steps),
  grind (arith, common_steps),
  HaveRequests-written c.self.inside.places _ c.args.index c.with_request-longer.result c.deref_mut.ensures.value c.self.invariant.3
      (subst (λ place. is_free place ≡ false → 0 < requests_of place) (sym c.with_request-longer.ensures)
      (requests_of-with_request c.args.last _
      (HaveRequests-at c.deref.result.now c.args.index (subst HaveRequests (sym c.deref.ensures.0) c.self.invariant.3)))),
)
