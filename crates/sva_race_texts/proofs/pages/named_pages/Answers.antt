use Rattle.std.proofs.Common.{◌<◌, ◌≤◌, ◌∙◌, length, rules, sym}
use Rattle.sva_race_texts.proofs.DeviceLemmas.{pages_end, pages_next}
use Rattle.sva_race_texts.proofs.pages.named_pages.Goals as goal

pub loop-place-preserved : goal.loop-place-preserved
loop-place-preserved c =
    let inside : c.loop-place.place < length c.args.lines.now = search rules in
    sym (pages_next c.args.lines.now c.loop-place.place c.index-lines-place.result c.loop-place.pages.items c.add_named.new.pages.items inside
    (sym c.index-lines-place.is) c.in_ok-add_named.ensures)
    ∙ c.loop-place.invariant

pub returns : goal.returns
returns c =
    let past : length c.args.lines.now ≤ c.loop-place.place = search rules in
    sym (pages_end c.args.lines.now c.loop-place.place c.loop-place.pages.items past) ∙ c.loop-place.invariant
