use Rattle.std.proofs.Common.{sym, ap, ◌∙◌, map, refl}
use Rattle.sva_frames.specs.Frames.{settled, past_reset}
use Rattle.sva_frames.proofs.Settling.{total_falls, settle_kept, unit_done}
use Rattle.sva_frames.proofs.pool.FramePool.settle_all.Goals as goal

pub loop-smaller : goal.loop-smaller
loop-smaller c =
    let one = c.in-Some.ensures.some in
    rw one.5 (total_falls c.loop.self c.in-Some.field-0 c.args.unit one.0 one.1 one.3 one.4)

pub loop-preserved : goal.loop-preserved
loop-preserved c =
    let one = c.in-Some.ensures.some in
    ap (map (settled c.args.unit past_reset)) one.5
    ∙ settle_kept c.loop.self c.in-Some.field-0 c.args.unit one.0 one.1 past_reset refl refl one.3 one.4
    ∙ c.loop.invariant

pub returns : goal.returns
returns c = c.in_default.ensures.kept ∙ sym (unit_done c.loop.self c.args.unit c.in_default.ensures.none) ∙ c.loop.invariant
