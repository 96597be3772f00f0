use Rattle.std.proofs.Common.{◌≡◌, ◌∙◌, ◌<◌, ◌≤◌, sym, false, get_or, true, length, rules}
use Rattle.sva_driver_words.specs.Awaits.{line_seen}
use Rattle.sva_driver_texts.specs.Ways.{is_on_way}
use Rattle.sva_driver_texts.proofs.WayLemmas.{first_here, first_later, first_none}
use Rattle.sva_driver_texts.proofs.ways.first_on_way.Goals as goal

pub returns-then-is_on_way : goal.returns-then-is_on_way
returns-then-is_on_way c =
    let such = is_on_way c.args.thread.now c.args.blocks.now in
    let lines = c.args.lines.now in
    let place = c.loop-place.place in
    let inside : place < length lines = search rules in
    let is : such (line_seen (get_or lines place c.index-lines-place.result)) ≡ true = search rules in
    sym (first_here such lines place c.index-lines-place.result inside is) ∙ c.loop-place.invariant

pub loop-place-preserved : goal.loop-place-preserved
loop-place-preserved c =
    let such = is_on_way c.args.thread.now c.args.blocks.now in
    let lines = c.args.lines.now in
    let place = c.loop-place.place in
    let inside : place < length lines = search rules in
    let other : such (line_seen (get_or lines place c.index-lines-place.result)) ≡ false = search rules in
    sym (first_later such lines place c.index-lines-place.result inside other) ∙ c.loop-place.invariant

pub returns : goal.returns
returns c =
    let past : length c.args.lines.now ≤ c.loop-place.place = search rules in
    sym (first_none (is_on_way c.args.thread.now c.args.blocks.now) c.args.lines.now c.loop-place.place past) ∙ c.loop-place.invariant
