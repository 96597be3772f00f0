use Rattle.std.proofs.Common.{ap, sym, ◌∙◌}
use Rattle.std.specs.Prelude.{option_map, Option, List}
use Rattle.sva_model.specs.Wire.{PageWire}
use Rattle.sva_labels.specs.Finding.{page_at, pages_of, or_no_pages}
use Rattle.sva_address_spaces.specs.Seen.{AddressSpacesSeen, page_seen}
use Rattle.sva_address_spaces.proofs.LiveLists.{pages_of-at}
use Rattle.sva_address_spaces.proofs.PageLists.{page_at-seen}
use Rattle.sva_address_spaces.proofs.ChangedSpace.{has_space, lacks_space}
use Rattle.sva_address_spaces.proofs.address_spaces.AddressSpaces.find.Goals as goal

pub returns-in_default : goal.returns-in_default
returns-in_default c =
    sym (ap (λ (found : Option (List PageWire)). page_at (or_no_pages found) c.args.page)
    (lacks_space c.self.inside c.args.space _ c.in_default.ensures c.deref.ensures.value))
    ∙ ap (λ (m : AddressSpacesSeen). page_at (or_no_pages (pages_of m.spaces c.args.space)) c.args.page) c.self.view_is

pub returns : goal.returns
returns c =
    let live = c.index.result.now in
    let at = has_space c.self.inside c.args.space c.in-Some.place live _ c.self.invariant c.in-Some.ensures c.deref.ensures.value c.index.ensures in
    ap (option_map (λ found. page_seen (c.args.page, found))) c.find.ensures.value
    ∙ sym (page_at-seen live.space c.args.page)
    ∙ sym
    (ap (λ (found : Option (List PageWire)). page_at (or_no_pages found) c.args.page)
    (pages_of-at c.self.inside.spaces.items c.args.space c.in-Some.place live at.there at.is_number at.once))
    ∙ ap (λ (m : AddressSpacesSeen). page_at (or_no_pages (pages_of m.spaces c.args.space)) c.args.page) c.self.view_is
