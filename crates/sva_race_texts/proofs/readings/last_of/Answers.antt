use Rattle.std.proofs.Common.{◌≤◌, ◌<◌, ◌∙◌, sym, length, rules}
use Rattle.sva_race_texts.proofs.ListLemmas.{last_end, last_next}
use Rattle.sva_race_texts.proofs.readings.last_of.Goals as goal

pub loop-place-preserved : goal.loop-place-preserved
loop-place-preserved c =
    let inside : c.loop-place.place < length c.args.threads.now = search rules in
    sym (last_next c.args.thread.now c.args.threads.now c.loop-place.place c.index-threads-place.result c.loop-place.found _ inside (search rules))
    ∙ c.loop-place.invariant

pub returns : goal.returns
returns c =
    let past : length c.args.threads.now ≤ c.loop-place.place = search rules in
    sym (last_end c.args.thread.now c.args.threads.now c.loop-place.place c.loop-place.found past) ∙ c.loop-place.invariant
