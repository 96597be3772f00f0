use Rattle.std.proofs.Common.{◌≡◌, ◌<◌, ◌≤◌, Bool, ap, arith, false, map, option_map, refl, rules, sym, true, ℕ}
use Rattle.std.specs.Prelude.{not}
use Rattle.sva_explain.proofs.NoneBelow.{none_to_next, none_within}
use Rattle.sva_address_spaces.specs.Seen.{target_seen}
use Rattle.sva_explain.specs.Ranges.{differs_at}
use Rattle.sva_labels.proofs.Words.{any_below-intro}
use Rattle.sva_model.specs.Words.{any_below}
use Rattle.sva_explain.proofs.limits.ranges.waits_so.Goals as goal

pub loop-unit-init : goal.loop-unit-init
unfolding any_below
loop-unit-init c = refl

pub returns-then-differs_at : goal.returns-then-differs_at
returns-then-differs_at c =
    let differs : ℕ → Bool = differs_at c.args.snapshot.now c.args.space (map (option_map target_seen) c.args.targets.now) in
    let here : differs c.loop-unit.unit ≡ true = search rules in
    let low : c.loop-unit.unit < 8 = omega (arith, c.loop-unit-test.true) in
    sym (ap not (any_below-intro 8 differs c.loop-unit.unit low here))

pub loop-unit-preserved : goal.loop-unit-preserved
loop-unit-preserved c =
    let differs : ℕ → Bool = differs_at c.args.snapshot.now c.args.space (map (option_map target_seen) c.args.targets.now) in
    let here : differs c.loop-unit.unit ≡ false = search rules in
    none_to_next c.loop-unit.unit differs here c.loop-unit.invariant

pub returns : goal.returns
returns c =
    let differs : ℕ → Bool = differs_at c.args.snapshot.now c.args.space (map (option_map target_seen) c.args.targets.now) in
    let past : 8 ≤ c.loop-unit.unit = omega (arith, c.loop-unit-test.false) in
    sym (ap not (none_within c.loop-unit.unit 8 differs past c.loop-unit.invariant))
