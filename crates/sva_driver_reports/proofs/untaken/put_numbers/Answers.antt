use Rattle.std.proofs.Common.{◌<◌, ◌≤◌, length, rules}
use Rattle.sva_driver_reports.proofs.Rests.{numbers_end, numbers_next}
use Rattle.sva_driver_reports.proofs.untaken.put_numbers.Goals as goal

pub loop-place-preserved : goal.loop-place-preserved
loop-place-preserved c =
    let inside : c.loop-place.place < length c.args.numbers.now = search rules in
    numbers_next (length c.args.numbers.now) c.args.numbers.now c.loop-place.place _ c.loop-place.out.items c.put_number_at.new.out.items _ inside
    c.loop-place.invariant c.in_ok-put_number_at.ensures

pub returns : goal.returns
returns c =
    let past : length c.args.numbers.now ≤ c.loop-place.place = search rules in
    numbers_end (length c.args.numbers.now) c.args.numbers.now c.loop-place.place c.loop-place.out.items _ past c.loop-place.invariant
