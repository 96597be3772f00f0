use Rattle.std.proofs.Common.{◌<◌, ◌≤◌, ◌∙◌, ap, sym, length, rules}
use Rattle.sva_open_safe.specs.Wrongs.{wrong_at}
use Rattle.sva_open_safe.proofs.Firsts.{found_first, found_later, found_none}
use Rattle.sva_open_safe.proofs.matches.first_among.Goals as goal

pub returns-in-Some : goal.returns-in-Some
returns-in-Some c =
    let inside : c.loop-endpoint.endpoint < length c.args.parts.now = search rules in
    sym
    (found_first c.args.now.now c.args.sort c.args.parts.now c.loop-endpoint.endpoint _ c.in-Some.wrong inside
    (ap (wrong_at c.args.now.now c.args.sort c.loop-endpoint.endpoint) (sym c.index-parts-endpoint.is) ∙ sym c.wrong_at.ensures ∙ c.in-Some.is))
    ∙ c.loop-endpoint.invariant

pub loop-endpoint-preserved : goal.loop-endpoint-preserved
loop-endpoint-preserved c =
    let inside : c.loop-endpoint.endpoint < length c.args.parts.now = search rules in
    sym
    (found_later c.args.now.now c.args.sort c.args.parts.now c.loop-endpoint.endpoint _ inside
    (ap (wrong_at c.args.now.now c.args.sort c.loop-endpoint.endpoint) (sym c.index-parts-endpoint.is) ∙ sym c.wrong_at.ensures ∙ c.in-None.is))
    ∙ c.loop-endpoint.invariant

pub returns : goal.returns
returns c =
    let past : length c.args.parts.now ≤ c.loop-endpoint.endpoint = search rules in
    sym (found_none c.args.now.now c.args.sort c.args.parts.now c.loop-endpoint.endpoint past) ∙ c.loop-endpoint.invariant
