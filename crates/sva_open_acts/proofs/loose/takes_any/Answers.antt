use Rattle.std.proofs.Common.{rules, ◌≡◌, ◌<◌, ◌≤◌, true, false, sym, length, ◌∙◌}
use Rattle.std.specs.Prelude.{is_some}
use Rattle.sva_open.specs.Units.{pump_at}
use Rattle.sva_open_acts.proofs.Taken.{found, found_none, goes_on}
use Rattle.sva_open_acts.proofs.loose.takes_any.Goals as goal

pub returns-then-may_pump_at : goal.returns-then-may_pump_at
returns-then-may_pump_at c =
    let low : c.loop-place.place < length c.args.part.now.queue = search rules in
    let free : is_some (pump_at c.args.settings.now c.args.part.now c.loop-place.place) ≡ true = search rules in
    sym (found c.args.settings.now c.args.part.now (length c.args.part.now.queue) c.loop-place.place low free) ∙ c.loop-place.invariant

pub loop-place-preserved : goal.loop-place-preserved
loop-place-preserved c =
    let low : c.loop-place.place < length c.args.part.now.queue = search rules in
    let barred : is_some (pump_at c.args.settings.now c.args.part.now c.loop-place.place) ≡ false = search rules in
    goes_on c.args.settings.now c.args.part.now (length c.args.part.now.queue) c.loop-place.place low barred ∙ c.loop-place.invariant

pub returns : goal.returns
returns c =
    let high : length c.args.part.now.queue ≤ c.loop-place.place = search rules in
    sym (found_none c.args.settings.now c.args.part.now (length c.args.part.now.queue) c.loop-place.place high) ∙ c.loop-place.invariant
