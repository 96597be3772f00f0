use Rattle.std.proofs.Common.{◌<◌, ◌≤◌, ◌∙◌, ◌++◌, ap, length, rules}
use Rattle.sva_driver_reports.specs.Reports.{marked_text}
use Rattle.sva_driver_reports.proofs.Rests.{budgets_end, budgets_next}
use Rattle.sva_driver_reports.proofs.notes.put_all_budgets.Goals as goal

pub loop-endpoint-preserved : goal.loop-endpoint-preserved
loop-endpoint-preserved c =
    let inside : c.loop-endpoint.endpoint < length c.args.devices.now = search rules in
    let mark = c.args.mark.now in
    let parts = c.args.parts.now in
    let lines = c.args.lines.now in
    budgets_next mark parts lines c.args.devices.now c.loop-endpoint.endpoint _ c.loop-endpoint.out.items
    c.put_marked.new.out.items _ inside c.loop-endpoint.invariant
    (c.in_ok-put_marked.ensures
    ∙ ap (λ it. c.loop-endpoint.out.items ++ marked_text mark parts lines c.loop-endpoint.endpoint it)
    c.index-devices-endpoint.is)

pub returns : goal.returns
returns c =
    let past : length c.args.devices.now ≤ c.loop-endpoint.endpoint = search rules in
    budgets_end c.args.mark.now c.args.parts.now c.args.lines.now c.args.devices.now c.loop-endpoint.endpoint
    c.loop-endpoint.out.items _ past c.loop-endpoint.invariant
