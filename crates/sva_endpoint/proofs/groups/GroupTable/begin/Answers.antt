use Rattle.std.proofs.Common.{◌<◌, length, arith}
use Rattle.std.proofs.lemmas.Grind.{common_steps}
use Rattle.sva_endpoint.proofs.GroupFacts.{HaveRequests-written, lowest_found, requests_of-group_of, requests_of-lowest}
use Rattle.sva_endpoint.proofs.groups.GroupTable.begin.Goals as goal

pub invariant_of-self : goal.invariant_of-self
invariant_of-self c =
    let one = requests_of-group_of c.args.pasid 1 c.args.last in
    let within : c.args.index < length c.self.inside.places.items = omega (arith, c.self.invariant.0, c.requires.within) in
    let found = lowest_found c.self.inside.places.items c.args.index (rw c.self.view_is c.requires.lowest) within in
    let none = requests_of-lowest c.self.inside.places.items c.args.index found in (
      grind (arith, common_steps),
      grind (arith, common_steps),
      grind (arith, common_steps),
      HaveRequests-written c.self.inside.places _ c.args.index c.group_of.result c.deref_mut.ensures.value c.self.invariant.3
          (λ taken. rw (c.group_of.ensures, one) (omega arith)),
    )
