use Rattle.std.proofs.Common.{◌<◌, ◌≤◌, ◌∙◌, ◌++◌, ap, length, rules}
use Rattle.sva_driver_reports.specs.Reports.{part_text}
use Rattle.sva_driver_reports.proofs.Rests.{parts_end, parts_next}
use Rattle.sva_driver_reports.proofs.notes.put_parts.Goals as goal

pub loop-endpoint-preserved : goal.loop-endpoint-preserved
loop-endpoint-preserved c =
    let inside : c.loop-endpoint.endpoint < length c.args.parts.now = search rules in
    parts_next c.args.parts.now c.loop-endpoint.endpoint _ c.loop-endpoint.out.items c.put_part.new.out.items _ inside c.loop-endpoint.invariant
    (c.in_ok-put_part.ensures ∙ ap (λ it. c.loop-endpoint.out.items ++ part_text c.loop-endpoint.endpoint it) c.index-parts-endpoint.is)

pub returns : goal.returns
returns c =
    let past : length c.args.parts.now ≤ c.loop-endpoint.endpoint = search rules in
    parts_end c.args.parts.now c.loop-endpoint.endpoint c.loop-endpoint.out.items _ past c.loop-endpoint.invariant
