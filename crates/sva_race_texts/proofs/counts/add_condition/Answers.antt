use Rattle.std.proofs.Common.{◌<◌, ◌≤◌, ◌∙◌, ◌++◌, ap, append-nil, length, map, rules, sym}
use Rattle.sva_race_texts.specs.Devices.{count_seen}
use Rattle.sva_race_texts.proofs.CountLemmas.{literals_counted, flat_end, flat_next, of_literals}
use Rattle.sva_race_texts.proofs.counts.add_condition.Goals as goal

pub loop-place-init : goal.loop-place-init
loop-place-init c = sym (append-nil (map count_seen c.args.counts.now.items))

pub loop-place-preserved : goal.loop-place-preserved
loop-place-preserved c =
    let inside : c.loop-place.place < length c.args.condition.now = search rules in
    flat_next of_literals c.args.condition.now c.loop-place.place c.index-condition-place.result
    (map count_seen c.args.counts.now.items)
    (map count_seen c.loop-place.counts.items) (map count_seen c.add_literals.new.counts.items)
    inside (sym c.index-condition-place.is) (c.in_ok-add_literals.ensures
    ∙ ap (λ l. map count_seen c.loop-place.counts.items ++ l) (literals_counted c.index-condition-place.result _ c.as_slice.ensures.value))
    c.loop-place.invariant

pub returns : goal.returns
returns c =
    let past : length c.args.condition.now ≤ c.loop-place.place = search rules in
    flat_end of_literals c.args.condition.now c.loop-place.place (map count_seen c.args.counts.now.items)
    (map count_seen c.loop-place.counts.items) past c.loop-place.invariant
