use Rattle.std.proofs.Common.{◌<◌, ◌≤◌, length, rules}
use Rattle.sva_driver_reports.proofs.Rests.{nevers_end, nevers_next}
use Rattle.sva_driver_reports.proofs.nevers.put_each.Goals as goal

pub loop-place-preserved : goal.loop-place-preserved
loop-place-preserved c =
    let inside : c.loop-place.place < length c.args.looked.now = search rules in
    nevers_next c.args.devices.now c.args.lines.now c.args.looked.now c.loop-place.place _ c.loop-place.out.items c.put_never.new.out.items _ inside
    c.loop-place.invariant c.in_ok-put_never.ensures

pub returns : goal.returns
returns c =
    let past : length c.args.looked.now ≤ c.loop-place.place = search rules in
    nevers_end c.args.devices.now c.args.lines.now c.args.looked.now c.loop-place.place c.loop-place.out.items _ past c.loop-place.invariant
