use Rattle.sva_frames.proofs.Lanes.{has_place, has_room}
use Rattle.sva_frames.proofs.lane.Lane.has_room.Goals as goal

pub returns-in-Some : goal.returns-in-Some
returns-in-Some c =
    rw (c.in-Some.is, ← c.self.view_is) (
      λ yes. has_room c.self.inside.cells.items c.self.inside.heads c.in-Some.target c.self.invariant c.has_place.ensures.apart
          (c.has_place.ensures.place.0 yes),
      λ room. c.has_place.ensures.place.1
          (has_place c.self.inside.cells.items c.self.inside.heads c.in-Some.target c.self.invariant c.has_place.ensures.apart room),
    )
