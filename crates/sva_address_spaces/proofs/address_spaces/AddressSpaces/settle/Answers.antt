use Rattle.std.proofs.Common.{ap, ◌∙◌, List}
use Rattle.sva_frames.specs.Frames.{past_cookie}
use Rattle.sva_labels.specs.Moves.{settled_cookie}
use Rattle.sva_model.specs.Wire.{PlaceWire}
use Rattle.sva_address_spaces.specs.Seen.{AddressSpacesSeen}
use Rattle.sva_address_spaces.specs.Inner.{spaces_in}
use Rattle.sva_address_spaces.specs.Unmapping.{settled}
use Rattle.sva_address_spaces.proofs.Waiting.{cookie_settled, owned_settled}
use Rattle.sva_address_spaces.proofs.address_spaces.AddressSpaces.settle.Goals as goal

pub invariant_of-self : goal.invariant_of-self
invariant_of-self c = record {
  numbered = c.self.invariant.numbered;
  owned = owned_settled c.args.unit (past_cookie c.args.cookie) c.self.inside.spaces.items c.self.inside.pool c.settle.new.self
      c.self.invariant.owned c.settle.ensures;
}

pub returns : goal.returns
returns c =
    ap (λ (places : List PlaceWire). record (spaces_in c.self.inside) { places = places })
    (cookie_settled c.args.unit c.args.cookie c.self.inside.pool c.settle.new.self c.settle.ensures)
    ∙ ap (λ (m : AddressSpacesSeen). settled m c.args.unit (settled_cookie c.args.cookie)) c.self.view_is
