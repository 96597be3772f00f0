use Rattle.std.proofs.Common.{◌<◌, ◌≤◌, ◌∙◌, ◌++◌, ap, length, rules}
use Rattle.std.specs.Prelude.{slice_get}
use Rattle.sva_driver_reports.specs.Reports.{other_text}
use Rattle.sva_driver_reports.proofs.Rests.{others_end, others_next}
use Rattle.sva_driver_reports.proofs.notes.put_others_behind.Goals as goal

pub loop-place-preserved : goal.loop-place-preserved
loop-place-preserved c =
    let inside : c.loop-place.place < length c.args.lines.now = search rules in
    let said = slice_get c.args.text.now.said.items c.loop-place.place in
    others_next c.args.text.now c.args.spot.now c.args.first c.args.lines.now c.loop-place.place _
    c.loop-place.out.items c.put_other.new.out.items _ inside c.loop-place.invariant
    (c.in_ok-put_other.ensures
    ∙ ap (λ it. c.loop-place.out.items ++ other_text c.args.spot.now c.args.first c.loop-place.place it said)
    c.index-lines-place.is)

pub returns : goal.returns
returns c =
    let past : length c.args.lines.now ≤ c.loop-place.place = search rules in
    others_end c.args.text.now c.args.spot.now c.args.first c.args.lines.now c.loop-place.place
    c.loop-place.out.items _ past c.loop-place.invariant
