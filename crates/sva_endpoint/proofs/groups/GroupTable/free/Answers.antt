use Rattle.std.proofs.Common.{arith}
use Rattle.std.proofs.lemmas.Grind.{common_steps}
use Rattle.sva_endpoint.specs.declared.groups.GroupPlace.TheVariants.{Free}
use Rattle.sva_endpoint.proofs.GroupFacts.{HaveRequests-written}
use Rattle.sva_endpoint.proofs.groups.GroupTable.free.Goals as goal

pub invariant_of-self : goal.invariant_of-self
invariant_of-self c = (
  grind (arith, common_steps),
  grind (arith, common_steps),
  grind (arith, common_steps),
  HaveRequests-written c.self.inside.places _ c.from-index.result Free c.deref_mut.ensures.value c.self.invariant.3 (λ wrong. absurd (cc)),
)
