use Rattle.std.proofs.Common.{ap, ◌∙◌}
use Rattle.sva_address_spaces.specs.Seen.{AddressSpacesSeen}
use Rattle.sva_address_spaces.specs.Steps as steps
use Rattle.sva_address_spaces.proofs.LiveLists.{is_found}
use Rattle.sva_address_spaces.proofs.address_spaces.AddressSpaces.has_space.Goals as goal

pub returns : goal.returns
returns c =
    is_found c.self.inside.spaces.items c.args.number _ _ _ c.is_some.ensures c.place_of.ensures c.deref.ensures.value
    ∙ ap (λ (m : AddressSpacesSeen). steps.has_space m c.args.number) c.self.view_is
