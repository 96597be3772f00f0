use Rattle.std.proofs.Common.{◌<◌, None, set, length, get_or, ap, ◌∙◌, arith}
use Rattle.sva_frames.proofs.Entering.{lane_item, room_at, entered_more, count_more}
use Rattle.sva_frames.proofs.lane.enter_all.Goals as goal

pub enter-left-requires-clause-here : goal.enter-left-requires-clause-here
enter-left-requires-clause-here c =
    c.requires.here c.loop-unit.unit _
    (lane_item c.args.frame c.args.targets.now c.args.lanes.now c.loop-unit.lanes c.loop-unit.unit c.index-lanes-unit.result
    c.loop-unit.invariant.after (omega arith))

pub enter-left-requires-clause-room : goal.enter-left-requires-clause-room
enter-left-requires-clause-room c =
    room_at c.args.targets.now c.loop-unit.unit (get_or c.loop-unit.lanes c.loop-unit.unit c.index-lanes-unit.result)
    (λ t. c.requires.room c.loop-unit.unit _ t
    (lane_item c.args.frame c.args.targets.now c.args.lanes.now c.loop-unit.lanes c.loop-unit.unit c.index-lanes-unit.result
    c.loop-unit.invariant.after (omega arith)))

pub loop-unit-preserved : goal.loop-unit-preserved
loop-unit-preserved c =
    let within : c.loop-unit.unit < length c.args.targets.now = omega (arith, c.requires.units) in
    record {
      after = ap (set c.loop-unit.lanes c.loop-unit.unit) c.enter-left.ensures.after
          ∙ ap (λ ls. set ls c.loop-unit.unit
          (set (get_or c.loop-unit.lanes c.loop-unit.unit c.index-lanes-unit.result) c.args.frame
          (get_or c.args.targets.now c.loop-unit.unit None))) c.loop-unit.invariant.after
          ∙ entered_more c.args.frame c.args.targets.now c.args.lanes.now c.loop-unit.unit
          (get_or c.loop-unit.lanes c.loop-unit.unit c.index-lanes-unit.result) within
          (lane_item c.args.frame c.args.targets.now c.args.lanes.now c.loop-unit.lanes c.loop-unit.unit c.index-lanes-unit.result
          c.loop-unit.invariant.after (omega arith));
      count = count_more c.args.targets.now c.loop-unit.unit c.loop-unit.left c.enter-left.result within c.loop-unit.invariant.count
          c.enter-left.ensures.count;
    }
