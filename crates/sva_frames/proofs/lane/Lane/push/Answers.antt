use Rattle.std.proofs.Common.{◌∙◌, arith, None}
use Rattle.std.proofs.lemmas.List.{map-set}
use Rattle.std.proofs.lemmas.Option.{slice_get_within}
use Rattle.sva_frames.specs.Chains.{target_of}
use Rattle.sva_frames.proofs.Lanes.{cell_at, has_place, lane_push}
use Rattle.sva_frames.proofs.lane.Lane.push.Goals as goal

pub set-requires : goal.set-requires
set-requires c = has_place c.self.inside.cells.items c.self.inside.heads c.args.target c.self.invariant c.first-next.ensures.apart
    (rw c.self.view_is c.requires.room)

pub index_mut-requires : goal.index_mut-requires
index_mut-requires c =
    let cell = cell_at c.self.inside.cells.items c.args.frame None (rw c.self.view_is c.requires.here) in
    omega (arith, slice_get_within c.self.inside.cells.items c.args.frame cell.0 cell.1)

pub invariant_of-self : goal.invariant_of-self
invariant_of-self c =
    lane_push c.self.inside.cells.items c.self.inside.heads c.set.new.self c.args.target c.args.frame c.first-next.result c.self.invariant
    (rw c.self.view_is c.requires.here) c.first-next.ensures.first c.set.ensures.here c.set.ensures.others

pub returns : goal.returns
returns c = map-set target_of c.self.inside.cells.items c.args.frame (record { target = _; next = c.first-next.result }) ∙ rw c.self.view_is
