use Rattle.std.proofs.Common.{◌<◌, ◌≤◌, ◌∙◌, ◌++◌, ap, length, rules}
use Rattle.std.specs.Prelude.{flat_map}
use Rattle.sva_driver_texts.proofs.Lists.{piece_end, piece_next}
use Rattle.sva_driver_reports.specs.Witness.{event_line}
use Rattle.sva_driver_reports.proofs.witness.put_events.Goals as goal

pub loop-place-preserved : goal.loop-place-preserved
loop-place-preserved c =
    let inside : c.loop-place.place < length c.args.events.now = search rules in
    piece_next (event_line c.width_of-width.result) c.args.events.now c.loop-place.place _ c.loop-place.out.items c.put_event.new.out.items _ inside
    c.loop-place.invariant
    (c.in_ok-put_event.ensures ∙ ap (λ it. c.loop-place.out.items ++ event_line c.width_of-width.result it) c.index-events-place.is)

pub returns : goal.returns
returns c =
    let past : length c.args.events.now ≤ c.loop-place.place = search rules in
    piece_end (event_line c.width_of-width.result) c.args.events.now c.loop-place.place c.loop-place.out.items _ past c.loop-place.invariant
    ∙ ap (λ width. c.args.out.now.items ++ flat_map (event_line width) c.args.events.now) c.width_of-width.ensures
