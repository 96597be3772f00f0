use Rattle.std.proofs.Common.{◌<◌, ◌≤◌, length, rules}
use Rattle.sva_driver_reports.proofs.Rests.{groups_end, groups_next}
use Rattle.sva_driver_reports.proofs.notes.put_groups.Goals as goal

pub loop-index-preserved : goal.loop-index-preserved
loop-index-preserved c =
    let inside : c.loop-index.index < length c.args.groups.now = search rules in
    groups_next c.args.endpoint c.args.groups.now c.loop-index.index _ c.loop-index.out.items c.put_group.new.out.items _ inside c.loop-index.invariant
    c.in_ok-put_group.ensures

pub returns : goal.returns
returns c =
    let past : length c.args.groups.now ≤ c.loop-index.index = search rules in
    groups_end c.args.endpoint c.args.groups.now c.loop-index.index c.loop-index.out.items _ past c.loop-index.invariant
