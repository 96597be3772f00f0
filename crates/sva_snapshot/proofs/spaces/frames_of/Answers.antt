use Rattle.std.proofs.Common.{ap, map, ◌∙◌}
use Rattle.sva_frames.specs.Reading.{holding_of}
use Rattle.sva_snapshot.proofs.More.{taken_more}
use Rattle.sva_snapshot.proofs.spaces.frames_of.Goals as goal

pub loop-number-preserved : goal.loop-number-preserved
loop-number-preserved c =
    ap (map holding_of) c.in_ok-push.ensures.items
    ∙ taken_more holding_of c.loop-number.frames.items c.held.result c.args.pool.now c.loop-number.number c.held.ensures c.loop-number.invariant
