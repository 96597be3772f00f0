use Rattle.std.proofs.Common.{◌≡◌, ◌++◌, set, take, drop, length, sym, ap, subst, ◌∙◌, map, arith}
use Rattle.std.proofs.lemmas.Option.{slice_get_within}
use Rattle.sva_frames.specs.Room.{HasRoom, target_at}
use Rattle.sva_frames.specs.Chains.{entered}
use Rattle.sva_frames.specs.Frames.{Mapped, after_waits}
use Rattle.sva_frames.specs.Pool.{holdings_from}
use Rattle.sva_frames.proofs.Holdings.{length-holdings}
use Rattle.sva_frames.proofs.Entering.{mapped_free, lane_is, length-entered, withheld-invariant, withheld-frames, written_back}
use Rattle.sva_frames.proofs.pool.FramePool.withhold.Goals as goal

pub enter_all-left-requires-clause-here : goal.enter_all-left-requires-clause-here
enter_all-left-requires-clause-here c =
    rw c.deref_mut.ensures.value
    (mapped_free c.self.inside.ledger c.self.inside.lanes.items c.frame.inside.number c.self.invariant
    (rw (c.self.view_is, c.frame.view_is) c.requires.mapped))

pub enter_all-left-requires-clause-room : goal.enter_all-left-requires-clause-room
enter_all-left-requires-clause-room c =
    rw (c.deref_mut.ensures.value, c.waits.view_is)
    (λ u lane t at found.
    subst (λ l. HasRoom l t) (ap (map (target_at u)) (sym c.self.view_is)
    ∙ lane_is c.self.inside.ledger c.self.inside.lanes.items u lane c.self.invariant at) (c.requires.room u t found))

pub set-requires : goal.set-requires
set-requires c =
    omega (
      arith,
      slice_get_within c.args.self.now c.args.frame Mapped c.requires.mapped,
      c.frame.view_is,
      ap length c.self.view_is,
      length-holdings 0 c.self.inside.ledger c.self.inside.lanes.items,
    )

lanes :
    (c : goal.After-set) →
    take c.self.inside.lanes.len (c.enter_all-left.new.lanes ++ drop (length c.enter_all-left.new.lanes) c.self.inside.lanes.items)
    ≡ entered c.frame.inside.number c.waits.inside.targets c.self.inside.lanes.items
lanes c =
    let same : c.enter_all-left.new.lanes ≡ entered c.frame.inside.number c.waits.inside.targets c.self.inside.lanes.items =
    c.enter_all-left.ensures.after ∙ ap (entered c.frame.inside.number c.waits.inside.targets) c.deref_mut.ensures.value in
    written_back c.self.inside.lanes.len c.enter_all-left.new.lanes c.self.inside.lanes.items
    (ap length same ∙ length-entered c.frame.inside.number c.waits.inside.targets c.self.inside.lanes.items) (omega arith) ∙ same

units : (c : goal.After-set) → length c.self.inside.lanes.items ≡ length c.waits.inside.targets
units c = omega (arith, c.self.invariant.units, c.waits.invariant)

pub invariant_of-self : goal.invariant_of-self
invariant_of-self c =
    rw (c.set.ensures, lanes c, c.of.ensures)
    (withheld-invariant c.self.inside.ledger c.self.inside.lanes.items c.frame.inside.number c.enter_all-left.result c.waits.inside.targets c.self.invariant
    (rw (c.self.view_is, c.frame.view_is) c.requires.mapped) (units c) c.enter_all-left.ensures.count)

pub returns : goal.returns
returns c =
    ap (λ ls. holdings_from 0 c.set.new.self ls) (lanes c)
    ∙ ap (λ ss. holdings_from 0 ss (entered c.frame.inside.number c.waits.inside.targets c.self.inside.lanes.items)) c.set.ensures
    ∙ ap (λ s. holdings_from 0 (set c.self.inside.ledger c.frame.inside.number s)
    (entered c.frame.inside.number c.waits.inside.targets c.self.inside.lanes.items)) c.of.ensures
    ∙ withheld-frames c.self.inside.ledger c.self.inside.lanes.items c.frame.inside.number c.enter_all-left.result c.waits.inside.targets c.self.invariant
    (rw (c.self.view_is, c.frame.view_is) c.requires.mapped) (units c) c.enter_all-left.ensures.count
    ∙ ap (λ hs. set hs c.frame.inside.number (after_waits c.waits.inside.targets)) c.self.view_is
    ∙ ap (λ n. set c.args.self.now n (after_waits c.waits.inside.targets)) c.frame.view_is
    ∙ ap (λ ws. set c.args.self.now c.args.frame (after_waits ws)) c.waits.view_is
