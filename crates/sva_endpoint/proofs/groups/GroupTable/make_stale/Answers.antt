use Rattle.std.proofs.Common.{◌≡◌, ◌∙◌, ap, subst, sym, length, map, rules}
use Rattle.arrayvec.proofs.ArrayVecLemmas.{items-with_items}
use Rattle.sva_endpoint.specs.Groups.{stale_of, outstanding, HaveRequests}
use Rattle.sva_endpoint.proofs.GroupFacts.{outstanding-stale_of, HaveRequests-stale_of}
use Rattle.sva_endpoint.proofs.groups.GroupTable.make_stale.Goals as goal

pub invariant_of-self : goal.invariant_of-self
invariant_of-self c =
    let long : length c.make_each_stale.new.places ≡ length c.self.inside.places.items = search rules in
    let is =
    items-with_items c.self.inside.places c.make_each_stale.new.places long ∙ c.make_each_stale.ensures
    ∙ ap (map (stale_of c.args.pasid)) c.as_mut_slice.ensures.value in (
      ap length (items-with_items c.self.inside.places c.make_each_stale.new.places long) ∙ long ∙ c.self.invariant.0,
      c.self.invariant.1 ∙ sym (outstanding-stale_of c.args.pasid c.self.inside.places.items) ∙ ap outstanding (sym is),
      c.self.invariant.2,
      subst HaveRequests (sym is) (HaveRequests-stale_of c.args.pasid c.self.inside.places.items c.self.invariant.3),
    )
