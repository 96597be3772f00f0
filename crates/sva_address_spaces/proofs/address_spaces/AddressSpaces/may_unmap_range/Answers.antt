use Rattle.std.proofs.Common.{ap, ◌∙◌}
use Rattle.sva_labels.specs.Finding.{pages_of}
use Rattle.sva_address_spaces.specs.Seen.{AddressSpacesSeen, pages_seen}
use Rattle.sva_address_spaces.specs.Inner.{spaces_in}
use Rattle.sva_labels.specs.Causes.{page_causes_of_unmap_range}
use Rattle.sva_address_spaces.specs.Unmapping as unmapping
use Rattle.sva_address_spaces.proofs.Permits.{no_space, a_space}
use Rattle.sva_address_spaces.proofs.LiveLists.{pages_of-at}
use Rattle.sva_address_spaces.proofs.ChangedSpace.{has_space, lacks_space}
use Rattle.sva_address_spaces.proofs.address_spaces.AddressSpaces.may_unmap_range.Goals as goal

pub returns-in_default : goal.returns-in_default
returns-in_default c =
    no_space (λ pages. page_causes_of_unmap_range pages c.args.page c.args.order) (pages_of (spaces_in c.self.inside).spaces c.args.space)
    (lacks_space c.self.inside c.args.space _ c.in_default.ensures c.deref.ensures.value)
    ∙ ap (λ (m : AddressSpacesSeen). unmapping.may_unmap_range m c.args.space c.args.page c.args.order) c.self.view_is

pub returns : goal.returns
returns c =
    let live = c.index.result.now in
    let at = has_space c.self.inside c.args.space c.in-Some.place live _ c.self.invariant c.in-Some.ensures c.deref.ensures.value c.index.ensures in
    c.may_unmap_range.ensures
    ∙ a_space (λ pages. page_causes_of_unmap_range pages c.args.page c.args.order)
    (pages_of (spaces_in c.self.inside).spaces c.args.space) (pages_seen live.space)
    (pages_of-at c.self.inside.spaces.items c.args.space c.in-Some.place live at.there at.is_number at.once)
    ∙ ap (λ (m : AddressSpacesSeen). unmapping.may_unmap_range m c.args.space c.args.page c.args.order) c.self.view_is
