use Rattle.std.proofs.Common.{◌<◌, ◌≤◌, [], length, map, rules, sym}
use Rattle.sva_race_texts.specs.Devices.{count_seen}
use Rattle.sva_race_texts.proofs.CountLemmas.{flat_end, flat_next, of_claim}
use Rattle.sva_race_texts.proofs.counts.counts_of.Goals as goal

pub loop-place-preserved : goal.loop-place-preserved
loop-place-preserved c =
    let inside : c.loop-place.place < length c.args.claims.now = search rules in
    flat_next of_claim c.args.claims.now c.loop-place.place c.index-claims-place.result
    []
    (map count_seen c.loop-place.counts.items) (map count_seen c.add_claim.new.counts.items)
    inside (sym c.index-claims-place.is) c.in_ok-add_claim.ensures
    c.loop-place.invariant

pub returns : goal.returns
returns c =
    let past : length c.args.claims.now ≤ c.loop-place.place = search rules in
    flat_end of_claim c.args.claims.now c.loop-place.place [] (map count_seen c.loop-place.counts.items) past c.loop-place.invariant
