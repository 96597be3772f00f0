use Rattle.std.proofs.Common.{◌<◌, ◌≤◌, ◌∙◌, ◌++◌, ap, length, rules}
use Rattle.sva_open.specs.World.{Part}
use Rattle.sva_driver_reports.specs.Witness.{conduct_text}
use Rattle.sva_driver_reports.proofs.Rests.{conducts_end, conducts_next}
use Rattle.sva_driver_reports.proofs.fronts.put_conducts.Goals as goal

pub loop-endpoint-preserved : goal.loop-endpoint-preserved
loop-endpoint-preserved c =
    let inside : c.loop-endpoint.endpoint < length c.args.parts.now = search rules in
    let endpoint = c.loop-endpoint.endpoint in
    let said = c.loop-endpoint.out.items in
    conducts_next c.args.parts.now endpoint _ said c.put_conduct.new.out.items _ inside c.loop-endpoint.invariant
    (c.in_ok-put_conduct.ensures ∙ ap (λ (it : Part). said ++ conduct_text endpoint it) c.index-parts-endpoint.is)

pub returns : goal.returns
returns c =
    let past : length c.args.parts.now ≤ c.loop-endpoint.endpoint = search rules in
    conducts_end c.args.parts.now c.loop-endpoint.endpoint c.loop-endpoint.out.items _ past c.loop-endpoint.invariant
