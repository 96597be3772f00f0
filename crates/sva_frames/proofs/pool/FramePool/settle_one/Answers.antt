use Rattle.std.proofs.Common.{◌≡◌, List, Option, Some, sym, ap, ◌∙◌, slice_get, arith}
use Rattle.std.proofs.lemmas.Option.{slice_get-get_or}
use Rattle.sva_frames.specs.declared.waits.Target.{Target}
use Rattle.sva_frames.proofs.Holdings.{settled-invariant, settled-frame, none_waits, none_past, stage_within}
use Rattle.sva_frames.proofs.pool.FramePool.settle_one.Goals as goal

pub returns-in_err-frame-clause-none : goal.returns-in_err-frame-clause-none
returns-in_err-frame-clause-none c =
    rw c.from_residual.ensures
    (λ n waits. rw (← c.self.view_is)
    (none_waits c.self.inside.ledger c.self.inside.lanes.items c.args.unit c.index_mut.result.now c.args.wanted c.self.invariant
    (slice_get-get_or c.self.inside.lanes.items c.args.unit c.index_mut.result.now (omega arith)
    ∙ ap (λ (l : List (Option Target)). Some l) (sym c.index_mut.ensures.value))
    c.in_err-frame.ensures.none n waits))

pub get-stage-requires : goal.get-stage-requires
get-stage-requires c =
    omega (
      arith,
      stage_within c.self.inside.ledger c.self.inside.lanes.items c.args.unit c.in_ok-frame.frame c.index_mut.result.now
          (Some c.in_ok-frame.ensures.some.0) c.self.invariant
          (slice_get-get_or c.self.inside.lanes.items c.args.unit c.index_mut.result.now (omega arith)
          ∙ ap (λ (l : List (Option Target)). Some l) (sym c.index_mut.ensures.value)) c.in_ok-frame.ensures.some.2,
    )

lane : (c : goal.After-set) → slice_get c.self.inside.lanes.items c.args.unit ≡ Some c.index_mut.result.now
lane c =
    slice_get-get_or c.self.inside.lanes.items c.args.unit c.index_mut.result.now (omega arith)
    ∙ ap (λ (l : List (Option Target)). Some l) (sym c.index_mut.ensures.value)

pub invariant_of-self-2 : goal.invariant_of-self-2
invariant_of-self-2 c =
    rw (c.set.ensures, c.lowered.ensures, c.in_ok-frame.ensures.after)
    (settled-invariant c.self.inside.ledger c.self.inside.lanes.items c.args.unit c.in_ok-frame.frame c.index_mut.result.now
    c.in_ok-frame.ensures.some.0 c.get-stage.result c.self.invariant (lane c) c.in_ok-frame.ensures.some.2 c.get-stage.ensures)

pub returns-clause-some : goal.returns-clause-some
returns-clause-some c =
    let one = settled-frame c.self.inside.ledger c.self.inside.lanes.items c.args.unit c.in_ok-frame.frame c.index_mut.result.now
    c.in_ok-frame.ensures.some.0 c.get-stage.result c.self.invariant (lane c) c.in_ok-frame.ensures.some.2 c.get-stage.ensures in
    rw (c.set.ensures, c.lowered.ensures, c.in_ok-frame.ensures.after, ← c.self.view_is) (
      one.0,
      c.in_ok-frame.ensures.some.0,
      c.in_ok-frame.ensures.some.1,
      one.1,
      one.2,
      one.3,
    )

pub returns-then-unit-len-clause-none : goal.returns-then-unit-len-clause-none
returns-then-unit-len-clause-none c =
    λ n waits. rw (← c.self.view_is)
    (none_past c.self.inside.ledger c.self.inside.lanes.items c.args.unit c.args.wanted c.self.invariant (omega arith) n waits)
