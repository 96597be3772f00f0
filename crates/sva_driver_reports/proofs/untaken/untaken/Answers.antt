use Rattle.std.proofs.Common.{◌∙◌, ◌<◌, ◌≤◌, length, rules, sym}
use Rattle.sva_driver_reports.proofs.UntakenLines.{untaken_more, untaken_none}
use Rattle.sva_driver_reports.proofs.untaken.untaken.Goals as goal

pub loop-place-preserved : goal.loop-place-preserved
loop-place-preserved c =
    let inside : c.loop-place.place < length c.args.looked.now = search rules in
    sym (untaken_more c.args.taken.now c.args.lines.now c.args.looked.now c.loop-place.told.items c.add_fact.new.told.items
    c.args.looked.now c.loop-place.place _ inside c.in_ok-add_fact.ensures)
    ∙ c.loop-place.invariant

pub returns : goal.returns
returns c =
    let past : length c.args.looked.now ≤ c.loop-place.place = search rules in
    sym (untaken_none c.args.taken.now c.args.lines.now c.args.looked.now c.loop-place.told.items c.args.looked.now c.loop-place.place past)
    ∙ c.loop-place.invariant
