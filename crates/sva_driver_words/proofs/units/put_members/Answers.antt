use Rattle.std.proofs.Common.{◌<◌, ◌≤◌, length, rules}
use Rattle.sva_driver_words.proofs.UnitLemmas.{members_end, members_next}
use Rattle.sva_driver_words.proofs.units.put_members.Goals as goal

pub loop-place-preserved : goal.loop-place-preserved
loop-place-preserved c =
    let inside : c.loop-place.place < length c.args.units.now = search rules in
    members_next c.args.unit c.args.units.now c.loop-place.place 0 c.loop-place.out.items c.put_member.new.out.items _ inside
    c.loop-place.invariant c.in_ok-put_member.ensures

pub returns : goal.returns
returns c =
    let past : length c.args.units.now ≤ c.loop-place.place = search rules in
    members_end c.args.unit c.args.units.now c.loop-place.place c.loop-place.out.items _ past c.loop-place.invariant
