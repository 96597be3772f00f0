use Rattle.std.proofs.Common.{◌<◌, ◌≤◌, ◌∙◌, ◌++◌, ap, length, rules}
use Rattle.sva_driver_reports.specs.Limits.{ask_text}
use Rattle.sva_driver_reports.proofs.Rests.{asks_end, asks_next}
use Rattle.sva_driver_reports.proofs.limits.put_all_asks.Goals as goal

pub loop-endpoint-preserved : goal.loop-endpoint-preserved
loop-endpoint-preserved c =
    let inside : c.loop-endpoint.endpoint < length c.args.devices.now = search rules in
    let lines = c.args.lines.now in
    asks_next c.args.has_caches lines c.args.devices.now c.loop-endpoint.endpoint _ c.loop-endpoint.out.items
    c.put_ask.new.out.items _ inside c.loop-endpoint.invariant
    (c.in_ok-put_ask.ensures
    ∙ ap (λ it. c.loop-endpoint.out.items ++ ask_text c.args.has_caches lines c.loop-endpoint.endpoint it)
    c.index-devices-endpoint.is)

pub returns : goal.returns
returns c =
    let past : length c.args.devices.now ≤ c.loop-endpoint.endpoint = search rules in
    asks_end c.args.has_caches c.args.lines.now c.args.devices.now c.loop-endpoint.endpoint
    c.loop-endpoint.out.items _ past c.loop-endpoint.invariant
