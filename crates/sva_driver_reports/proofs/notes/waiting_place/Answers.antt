use Rattle.std.proofs.Common.{◌≡◌, ◌∙◌, ◌<◌, ◌≤◌, ap, length, rules, sym, true, false}
use Rattle.std.specs.Prelude.{slice_get}
use Rattle.sva_driver_reports.specs.Reports.{waits_by}
use Rattle.sva_driver_reports.proofs.Rests.{waiting_here, waiting_more, waiting_none}
use Rattle.sva_driver_reports.proofs.notes.waiting_place.Goals as goal

pub returns-then-waits_at : goal.returns-then-waits_at
returns-then-waits_at c =
    let inside : c.loop-place.place < length c.args.lines.now = search rules in
    let it_waits : c.waits_at.result ≡ true = search rules in
    sym (waiting_here c.args.text.now c.args.spot.now c.args.lines.now c.loop-place.place _ inside
    (ap (λ it. waits_by c.args.spot.now c.loop-place.place it (slice_get c.args.text.now.said.items c.loop-place.place))
    (sym c.index-lines-place.is) ∙ sym c.waits_at.ensures ∙ it_waits))
    ∙ c.loop-place.invariant

pub loop-place-preserved : goal.loop-place-preserved
loop-place-preserved c =
    let inside : c.loop-place.place < length c.args.lines.now = search rules in
    let it_goes : c.waits_at.result ≡ false = search rules in
    sym (waiting_more c.args.text.now c.args.spot.now c.args.lines.now c.loop-place.place _ inside
    (ap (λ it. waits_by c.args.spot.now c.loop-place.place it (slice_get c.args.text.now.said.items c.loop-place.place))
    (sym c.index-lines-place.is) ∙ sym c.waits_at.ensures ∙ it_goes))
    ∙ c.loop-place.invariant

pub returns : goal.returns
returns c =
    let past : length c.args.lines.now ≤ c.loop-place.place = search rules in
    sym (waiting_none c.args.text.now c.args.spot.now c.args.lines.now c.loop-place.place past) ∙ c.loop-place.invariant
