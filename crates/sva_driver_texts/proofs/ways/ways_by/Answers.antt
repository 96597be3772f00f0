use Rattle.std.proofs.Common.{◌+◌, ◌<◌, ◌≤◌, ◌∙◌, ap, drop, length, map, rules}
use Rattle.sva_driver_words.specs.Awaits.{line_seen}
use Rattle.sva_driver_words.specs.declared.kept.LineRead.{LineRead}
use Rattle.sva_driver_texts.specs.Ways.{way_of}
use Rattle.sva_driver_texts.proofs.WayLemmas.{own, seen, way_next, ways_end}
use Rattle.sva_driver_texts.proofs.ways.ways_by.Goals as goal

pub loop-place-preserved : goal.loop-place-preserved
loop-place-preserved c =
    let lines = c.args.lines.now in
    let place = c.loop-place.place in
    let inside : place < length lines = search rules in
    way_next (map own c.args.threads.now) lines place _ c.in_ok-way.way c.loop-place.list.items c.push.new.self.items _ inside
    (c.in_ok-way.ensures
    ∙ ap (λ (line : LineRead). way_of (map own c.args.threads.now) place (line_seen line) (seen (drop (place + 1) lines))) c.index-lines-place.is)
    c.in_ok-push.ensures.items c.loop-place.invariant

pub returns : goal.returns
returns c =
    let past : length c.args.lines.now ≤ c.loop-place.place = search rules in
    ways_end (map own c.args.threads.now) c.args.lines.now c.loop-place.place c.loop-place.list.items _ past c.loop-place.invariant
