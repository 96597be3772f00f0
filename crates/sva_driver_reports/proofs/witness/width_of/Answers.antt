use Rattle.std.proofs.Common.{◌∙◌, ◌<◌, ◌≤◌, ap, length, rules, sym}
use Rattle.sva_driver_reports.specs.Witness.{wider}
use Rattle.sva_driver_reports.proofs.Rests.{wider_more, wider_none}
use Rattle.sva_driver_reports.proofs.witness.width_of.Goals as goal

pub loop-place-preserved : goal.loop-place-preserved
loop-place-preserved c =
    let inside : c.loop-place.place < length c.args.events.now = search rules in
    sym (wider_more c.loop-place.width c.wider-width.result c.args.events.now c.loop-place.place _ inside
    (c.wider-width.ensures ∙ ap (wider c.loop-place.width) c.index-events-place.is))
    ∙ c.loop-place.invariant

pub returns : goal.returns
returns c =
    let past : length c.args.events.now ≤ c.loop-place.place = search rules in
    sym (wider_none c.loop-place.width c.args.events.now c.loop-place.place past) ∙ c.loop-place.invariant
