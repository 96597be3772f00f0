use Rattle.std.proofs.Common.{sym, subst}
use Rattle.sva_address_spaces.specs.Seen.{AddressSpacesSeen, targets_seen}
use Rattle.sva_address_spaces.specs.Room.{HaveRoom}
use Rattle.sva_address_spaces.proofs.Waiting.{room_of, room_seen}
use Rattle.sva_address_spaces.proofs.address_spaces.AddressSpaces.has_room.Goals as goal

pub returns : goal.returns
returns c = (
  λ yes_room. subst (λ (m : AddressSpacesSeen). HaveRoom m.places (targets_seen c.args.waits.now)) c.self.view_is
      (room_seen c.self.inside.pool c.args.waits.now (c.has_room.ensures.0 yes_room)),
  λ room. c.has_room.ensures.1
      (room_of c.self.inside.pool c.args.waits.now
      (subst (λ (m : AddressSpacesSeen). HaveRoom m.places (targets_seen c.args.waits.now)) (sym c.self.view_is) room)),
)
