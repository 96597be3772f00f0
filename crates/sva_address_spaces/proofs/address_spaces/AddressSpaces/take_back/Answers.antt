use Rattle.std.proofs.Common.{sym, ap, ◌∙◌}
use Rattle.sva_address_spaces.specs.Seen.{AddressSpacesSeen, pages_seen, places_seen}
use Rattle.sva_address_spaces.specs.Inner.{spaces_in}
use Rattle.sva_address_spaces.specs.Asked.{taken_back}
use Rattle.sva_address_spaces.proofs.LiveLists.{owns-at}
use Rattle.sva_address_spaces.proofs.ChangedSpace.{has_space, lacks_space, one_changed, stays_the_same}
use Rattle.sva_address_spaces.proofs.JobPages.{back_none, back_seen}
use Rattle.sva_address_spaces.proofs.address_spaces.AddressSpaces.take_back.Goals as goal

pub returns-in_default : goal.returns-in_default
returns-in_default c =
    sym c.self.view_is
    ∙ back_none (spaces_in c.self.inside) c.args.space c.args.pages.now (lacks_space c.self.inside c.args.space _ c.in_default.ensures c.deref.ensures.value)
    ∙ ap (λ (m : AddressSpacesSeen). taken_back m c.args.space c.args.pages.now) c.self.view_is

pub take_back-requires : goal.take_back-requires
take_back-requires c =
    let at = has_space c.self.inside c.args.space c.in-Some.place c.index_mut.result.now _ c.self.invariant c.in-Some.ensures c.deref.ensures.value
    c.index_mut.ensures.value in
    owns-at c.self.inside.spaces.items c.self.inside.pool c.in-Some.place c.index_mut.result.now c.self.invariant.owned at.there

pub invariant_of-self : goal.invariant_of-self
invariant_of-self c =
    let at = has_space c.self.inside c.args.space c.in-Some.place c.index_mut.result.now _ c.self.invariant c.in-Some.ensures c.deref.ensures.value
    c.index_mut.ensures.value in
    stays_the_same c.self.inside c.args.space c.in-Some.place c.index_mut.result.now c.take_back.new.space c.take_back.new.pool c.self.invariant at
    c.take_back.ensures.balanced

pub returns : goal.returns
returns c =
    let live = c.index_mut.result.now in
    let at = has_space c.self.inside c.args.space c.in-Some.place live _ c.self.invariant c.in-Some.ensures c.deref.ensures.value c.index_mut.ensures.value in
    back_seen (spaces_in c.self.inside) c.args.space (pages_seen live.space) (pages_seen c.take_back.new.space) c.args.pages.now _
    (places_seen c.take_back.new.pool)
    (one_changed c.self.inside c.args.space c.in-Some.place live c.take_back.new.space at) c.take_back.ensures.pages c.take_back.ensures.places
    ∙ ap (λ (m : AddressSpacesSeen). taken_back m c.args.space c.args.pages.now) c.self.view_is
