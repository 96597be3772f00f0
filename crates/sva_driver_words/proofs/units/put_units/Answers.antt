use Rattle.std.proofs.Common.{◌<◌, ◌≤◌, length, rules}
use Rattle.sva_driver_words.proofs.UnitLemmas.{shared_end, shared_next}
use Rattle.sva_driver_words.proofs.units.put_units.Goals as goal

pub loop-unit-preserved : goal.loop-unit-preserved
loop-unit-preserved c =
    let inside : c.loop-unit.unit < length c.args.units.now = search rules in
    shared_next c.args.units.now c.args.before.now c.args.behind.now c.loop-unit.unit 0 c.loop-unit.out.items c.put_shared.new.out.items _ inside
    c.loop-unit.invariant c.in_ok-put_shared.ensures

pub returns : goal.returns
returns c =
    let past : length c.args.units.now ≤ c.loop-unit.unit = search rules in
    shared_end c.args.units.now c.args.before.now c.args.behind.now c.loop-unit.unit c.loop-unit.out.items _ past c.loop-unit.invariant
