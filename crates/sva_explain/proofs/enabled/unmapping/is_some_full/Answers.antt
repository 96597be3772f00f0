use Rattle.std.proofs.Common.{◌≡◌, ◌&&◌, ◌<◌, ◌≤◌, Bool, arith, false, refl, rules, sym, true, ℕ}
use Rattle.std.specs.Prelude.{not}
use Rattle.sva_labels.specs.Finding.{has_room, submits, unit_of}
use Rattle.sva_labels.proofs.Words.{any_below-intro}
use Rattle.sva_model.specs.Words.{any_below}
use Rattle.sva_explain.proofs.NoneBelow.{none_to_next, none_within}
use Rattle.sva_explain.proofs.enabled.unmapping.is_some_full.Goals as goal

pub loop-endpoint-init : goal.loop-endpoint-init
unfolding any_below
loop-endpoint-init c = refl

pub returns-then-lacks_room : goal.returns-then-lacks_room
returns-then-lacks_room c =
    let lacking : ℕ → Bool = λ endpoint. submits c.args.snapshot.now c.args.space endpoint
    && not (has_room (unit_of c.args.snapshot.now endpoint) c.args.needed) in
    let here : lacking c.loop-endpoint.endpoint ≡ true = search rules in
    let low : c.loop-endpoint.endpoint < c.args.count = omega (arith, c.loop-endpoint-test.true) in
    sym (any_below-intro c.args.count lacking c.loop-endpoint.endpoint low here)

pub loop-endpoint-preserved : goal.loop-endpoint-preserved
loop-endpoint-preserved c =
    let lacking : ℕ → Bool = λ endpoint. submits c.args.snapshot.now c.args.space endpoint
    && not (has_room (unit_of c.args.snapshot.now endpoint) c.args.needed) in
    let here : lacking c.loop-endpoint.endpoint ≡ false = search rules in
    none_to_next c.loop-endpoint.endpoint lacking here c.loop-endpoint.invariant

pub returns : goal.returns
returns c =
    let lacking : ℕ → Bool = λ endpoint. submits c.args.snapshot.now c.args.space endpoint
    && not (has_room (unit_of c.args.snapshot.now endpoint) c.args.needed) in
    let past : c.args.count ≤ c.loop-endpoint.endpoint = omega (arith, c.loop-endpoint-test.false) in
    sym (none_within c.loop-endpoint.endpoint c.args.count lacking past c.loop-endpoint.invariant)
