use Rattle.std.proofs.Common.{◌<◌, ◌≤◌, ◌∙◌, ap, length, map, rules}
use Rattle.sva_driver_words.specs.Awaits.{line_seen}
use Rattle.sva_driver_texts.specs.Devices as devices
use Rattle.sva_driver_texts.specs.Plans.{planned}
use Rattle.sva_driver_texts.proofs.Lists.{planned_end, planned_next}
use Rattle.sva_driver_texts.proofs.plans.all_planned.Goals as goal

pub loop-endpoint-preserved : goal.loop-endpoint-preserved
loop-endpoint-preserved c =
    let inside : c.loop-endpoint.endpoint < length c.args.told.now = search rules in
    planned_next (map line_seen c.args.lines.now) c.args.told.now c.loop-endpoint.endpoint _ c.in_ok-own.own c.loop-endpoint.list.items
    c.push.new.self.items _ inside
    (c.in_ok-own.ensures
    ∙ ap (λ device. planned (map line_seen c.args.lines.now) c.loop-endpoint.endpoint (devices.device_seen device)) c.index-told-endpoint.is)
    c.in_ok-push.ensures.items c.loop-endpoint.invariant

pub returns : goal.returns
returns c =
    let past : length c.args.told.now ≤ c.loop-endpoint.endpoint = search rules in
    planned_end (map line_seen c.args.lines.now) c.args.told.now c.loop-endpoint.endpoint c.loop-endpoint.list.items _ past
    c.loop-endpoint.invariant
