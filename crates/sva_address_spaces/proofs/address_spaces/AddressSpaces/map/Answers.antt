use Rattle.std.proofs.Common.{subst}
use Rattle.std.specs.Prelude.{Err}
use Rattle.sva_step.specs.declared.steps.Step.TheVariants as step
use Rattle.sva_step.specs.declared.refusals.Refusal.TheVariants as refusal
use Rattle.sva_address_spaces.specs.Seen.{AddressSpacesSeen, pages_seen, places_seen, with_address_spaces}
use Rattle.sva_address_spaces.specs.Inner.{spaces_in}
use Rattle.sva_address_spaces.specs.Steps.{Steps}
use Rattle.sva_address_spaces.proofs.Hosts.{at_each, no_space_map, by_map}
use Rattle.sva_address_spaces.proofs.ChangedSpace.{has_space, lacks_space, one_changed, stays_the_same, with_space}
use Rattle.sva_address_spaces.proofs.address_spaces.AddressSpaces.map.Goals as goal

pub returns-in_default : goal.returns-in_default
returns-in_default c =
    subst (λ (m : AddressSpacesSeen). Steps (step.Map c.args.space c.args.page c.args.write) m (Err refusal.NoSuchSpace) m) c.self.view_is
    (at_each (step.Map c.args.space c.args.page c.args.write) (spaces_in c.self.inside) (Err refusal.NoSuchSpace) (spaces_in c.self.inside)
    (λ w. no_space_map (with_address_spaces w (spaces_in c.self.inside)) c.args.space c.args.page c.args.write
    (lacks_space c.self.inside c.args.space _ c.in_default.ensures c.deref.ensures.value)))

pub invariant_of-self : goal.invariant_of-self
invariant_of-self c =
    let at = has_space c.self.inside c.args.space c.in-Some.place c.index_mut.result.now _ c.self.invariant c.in-Some.ensures c.deref.ensures.value
    c.index_mut.ensures.value in
    stays_the_same c.self.inside c.args.space c.in-Some.place c.index_mut.result.now c.map_page.new.space c.map_page.new.pool c.self.invariant at
    c.map_page.ensures.balanced

pub returns : goal.returns
returns c =
    let live = c.index_mut.result.now in
    let at = has_space c.self.inside c.args.space c.in-Some.place c.index_mut.result.now _ c.self.invariant c.in-Some.ensures c.deref.ensures.value
    c.index_mut.ensures.value in
    let after = spaces_in (with_space c.self.inside c.in-Some.place live c.map_page.new.space c.map_page.new.pool) in
    subst (λ (m : AddressSpacesSeen). Steps (step.Map c.args.space c.args.page c.args.write) m c.map_page.result after) c.self.view_is
    (at_each (step.Map c.args.space c.args.page c.args.write) (spaces_in c.self.inside) c.map_page.result after
    (λ w. by_map (with_address_spaces w (spaces_in c.self.inside)) c.args.space c.args.page c.args.write c.map_page.result (pages_seen live.space)
    (pages_seen c.map_page.new.space) _ (places_seen c.map_page.new.pool)
    (one_changed c.self.inside c.args.space c.in-Some.place live c.map_page.new.space at) c.map_page.ensures.step))
