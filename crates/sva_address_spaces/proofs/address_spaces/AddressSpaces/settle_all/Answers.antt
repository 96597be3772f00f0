use Rattle.std.proofs.Common.{ap, ◌∙◌, List, None}
use Rattle.sva_frames.specs.Frames.{past_reset}
use Rattle.sva_model.specs.Wire.{PlaceWire}
use Rattle.sva_address_spaces.specs.Seen.{AddressSpacesSeen}
use Rattle.sva_address_spaces.specs.Inner.{spaces_in}
use Rattle.sva_address_spaces.specs.Unmapping.{settled}
use Rattle.sva_address_spaces.proofs.Waiting.{unit_settled, owned_settled}
use Rattle.sva_address_spaces.proofs.address_spaces.AddressSpaces.settle_all.Goals as goal

pub invariant_of-self : goal.invariant_of-self
invariant_of-self c = record {
  numbered = c.self.invariant.numbered;
  owned = owned_settled c.args.unit (past_reset) c.self.inside.spaces.items c.self.inside.pool c.settle_all.new.self c.self.invariant.owned
      c.settle_all.ensures;
}

pub returns : goal.returns
returns c =
    ap (λ (places : List PlaceWire). record (spaces_in c.self.inside) { places = places })
    (unit_settled c.args.unit c.self.inside.pool c.settle_all.new.self c.settle_all.ensures)
    ∙ ap (λ (m : AddressSpacesSeen). settled m c.args.unit (λ target. None)) c.self.view_is
