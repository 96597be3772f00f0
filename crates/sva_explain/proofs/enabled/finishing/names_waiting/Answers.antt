use Rattle.std.proofs.Common.{◌≡◌, ◌&&◌, ◌<◌, ◌≤◌, Bool, arith, false, refl, rules, sym, true, ℕ}
use Rattle.sva_labels.specs.Finding.{taken_at, waits_for_use}
use Rattle.sva_labels.proofs.Words.{any_below-intro}
use Rattle.sva_model.specs.Labels.{is_set}
use Rattle.sva_model.specs.Words.{any_below}
use Rattle.sva_snapshot.specs.Shown.{device_shown}
use Rattle.sva_explain.proofs.NoneBelow.{none_to_next, none_within}
use Rattle.sva_explain.proofs.enabled.finishing.names_waiting.Goals as goal

pub loop-itag-init : goal.loop-itag-init
unfolding any_below
loop-itag-init c = refl

pub returns-then-is_named_waiting : goal.returns-then-is_named_waiting
returns-then-is_named_waiting c =
    let named : ℕ → Bool = λ itag. is_set c.args.vector itag && waits_for_use (taken_at (device_shown c.args.device.now) itag) in
    let here : named c.loop-itag.itag ≡ true = search rules in
    let low : c.loop-itag.itag < 32 = omega (arith, c.loop-itag-test.true) in
    sym (any_below-intro 32 named c.loop-itag.itag low here)

pub loop-itag-preserved : goal.loop-itag-preserved
loop-itag-preserved c =
    let named : ℕ → Bool = λ itag. is_set c.args.vector itag && waits_for_use (taken_at (device_shown c.args.device.now) itag) in
    let here : named c.loop-itag.itag ≡ false = search rules in
    none_to_next c.loop-itag.itag named here c.loop-itag.invariant

pub returns : goal.returns
returns c =
    let named : ℕ → Bool = λ itag. is_set c.args.vector itag && waits_for_use (taken_at (device_shown c.args.device.now) itag) in
    let past : 32 ≤ c.loop-itag.itag = omega (arith, c.loop-itag-test.false) in
    sym (none_within c.loop-itag.itag 32 named past c.loop-itag.invariant)
