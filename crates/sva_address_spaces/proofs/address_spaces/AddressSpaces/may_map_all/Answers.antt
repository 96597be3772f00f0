use Rattle.std.proofs.Common.{sym, ap, ◌∙◌, subst, ◌≡◌, true}
use Rattle.std.specs.Prelude.{Option, List}
use Rattle.sva_model.specs.Wire.{PageWire}
use Rattle.sva_labels.specs.Finding.{or_no_pages}
use Rattle.sva_address_spaces.specs.Seen.{AddressSpacesSeen}
use Rattle.sva_address_spaces.specs.Inner.{spaces_in}
use Rattle.sva_address_spaces.specs.Pieces.{verdict}
use Rattle.sva_address_spaces.specs.Steps.{has_space}
use Rattle.sva_address_spaces.specs.Asked.{asks_seen, success_causes, may_map_all}
use Rattle.sva_address_spaces.proofs.LiveLists.{pages_of-at}
use Rattle.sva_address_spaces.proofs.ChangedSpace.{has_space as space_there, lacks_space}
use Rattle.sva_address_spaces.proofs.JobPages.{is_lacking}
use Rattle.sva_address_spaces.proofs.address_spaces.AddressSpaces.may_map_all.Goals as goal

pub unreachable-requires : goal.unreachable-requires
unreachable-requires c =
    is_lacking (spaces_in c.self.inside) c.args.space (lacks_space c.self.inside c.args.space _ c.in_default.ensures c.deref.ensures.value)
    (subst (λ (m : AddressSpacesSeen). has_space m c.args.space ≡ true) (sym c.self.view_is) c.requires.there)

pub returns : goal.returns
returns c =
    let live = c.index.result.now in
    let at = space_there c.self.inside c.args.space c.in-Some.place live _ c.self.invariant c.in-Some.ensures c.deref.ensures.value c.index.ensures in
    c.may_map_all.ensures
    ∙ ap (λ (o : Option (List PageWire)). verdict (success_causes (or_no_pages o) (spaces_in c.self.inside).places (asks_seen c.args.asks.now)))
    (sym (pages_of-at c.self.inside.spaces.items c.args.space c.in-Some.place live at.there at.is_number at.once))
    ∙ ap (λ (m : AddressSpacesSeen). may_map_all m c.args.space (asks_seen c.args.asks.now)) c.self.view_is
