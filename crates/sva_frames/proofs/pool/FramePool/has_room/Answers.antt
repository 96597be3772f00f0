use Rattle.std.proofs.Common.{◌≡◌, true, refl, List, Option, Some, ap, sym, ◌∙◌, arith}
use Rattle.std.proofs.lemmas.Option.{slice_get-get_or}
use Rattle.sva_frames.specs.declared.waits.Target.{Target}
use Rattle.sva_frames.proofs.Entering.{room_more, room_missing, room_everywhere}
use Rattle.sva_frames.proofs.pool.FramePool.has_room.Goals as goal

pub loop-unit-preserved : goal.loop-unit-preserved
loop-unit-preserved c =
    rw (← c.self.view_is)
    (room_more c.self.inside.ledger c.self.inside.lanes.items c.waits.inside.targets c.loop-unit.unit c.index.result.now c.self.invariant
    (slice_get-get_or c.self.inside.lanes.items c.loop-unit.unit c.index.result.now (omega (arith, c.self.invariant.units))
    ∙ ap (λ (l : List (Option Target)). Some l) (sym c.index.ensures))
    (rw c.self.view_is c.loop-unit.invariant) (c.has_room.ensures.0 c.if-not-has_room.false))

pub returns-then-not-has_room : goal.returns-then-not-has_room
returns-then-not-has_room c = (
  λ yes. absurd (cc),
  λ room.
      let missing : c.has_room.result ≡ true =
      c.has_room.ensures.1 (room_missing c.self.inside.ledger c.self.inside.lanes.items c.waits.inside.targets c.loop-unit.unit c.index.result.now
      c.self.invariant
      (slice_get-get_or c.self.inside.lanes.items c.loop-unit.unit c.index.result.now (omega (arith, c.self.invariant.units))
      ∙ ap (λ (l : List (Option Target)). Some l) (sym c.index.ensures))
      (rw (c.self.view_is, c.waits.view_is) room)) in
      absurd (cc),
)

pub returns : goal.returns
returns c =
    let all : c.loop-unit.unit ≡ 8 = omega arith in (
      λ yes. rw (← c.waits.view_is) (room_everywhere c.args.self.now c.waits.inside.targets c.waits.invariant (rw (← all) c.loop-unit.invariant)),
      λ room. refl,
    )
