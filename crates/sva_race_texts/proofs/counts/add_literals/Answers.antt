use Rattle.std.proofs.Common.{◌<◌, ◌≤◌, append-nil, length, map, rules, sym}
use Rattle.sva_race_texts.specs.Devices.{count_seen}
use Rattle.sva_race_texts.proofs.CountLemmas.{flat_end, flat_next, of_literal}
use Rattle.sva_race_texts.proofs.counts.add_literals.Goals as goal

pub loop-place-init : goal.loop-place-init
loop-place-init c = sym (append-nil (map count_seen c.args.counts.now.items))

pub loop-place-preserved : goal.loop-place-preserved
loop-place-preserved c =
    let inside : c.loop-place.place < length c.args.literals.now = search rules in
    flat_next of_literal c.args.literals.now c.loop-place.place c.index-literals-place.result
    (map count_seen c.args.counts.now.items)
    (map count_seen c.loop-place.counts.items) (map count_seen c.add_literal.new.counts.items)
    inside (sym c.index-literals-place.is) c.in_ok-add_literal.ensures
    c.loop-place.invariant

pub returns : goal.returns
returns c =
    let past : length c.args.literals.now ≤ c.loop-place.place = search rules in
    flat_end of_literal c.args.literals.now c.loop-place.place (map count_seen c.args.counts.now.items)
    (map count_seen c.loop-place.counts.items) past c.loop-place.invariant
