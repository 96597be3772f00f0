use Rattle.std.proofs.Common.{◌<◌, ◌≤◌, ◌∙◌, ◌++◌, ap, length, rules}
use Rattle.sva_driver_texts.proofs.Lists.{piece_end, piece_next}
use Rattle.sva_driver_reports.specs.Reports.{found_text}
use Rattle.sva_driver_reports.proofs.reports.put_each_found.Goals as goal

pub loop-place-preserved : goal.loop-place-preserved
loop-place-preserved c =
    let inside : c.loop-place.place < length c.args.found.now = search rules in
    let each = found_text c.args.text.now c.args.is_brief in
    piece_next each c.args.found.now c.loop-place.place _ c.loop-place.out.items c.put_found.new.out.items _ inside
    c.loop-place.invariant
    (c.in_ok-put_found.ensures ∙ ap (λ it. c.loop-place.out.items ++ each it) c.index-found-place.is)

pub returns : goal.returns
returns c =
    let past : length c.args.found.now ≤ c.loop-place.place = search rules in
    piece_end (found_text c.args.text.now c.args.is_brief) c.args.found.now c.loop-place.place c.loop-place.out.items _ past c.loop-place.invariant
