use Rattle.std.proofs.Common.{◌<◌, ◌≤◌, ◌∙◌, sym, length, rules}
use Rattle.sva_open_safe.specs.Wrongs as wrongs
use Rattle.sva_open_safe.proofs.Firsts.{in_first, in_later, in_none}
use Rattle.sva_open_safe.proofs.owners.first_received.Goals as goal

pub returns-in-Some : goal.returns-in-Some
returns-in-Some c =
    let inside : c.loop-place.place < length c.args.list.now = search rules in
    sym
    (in_first (wrongs.received_left c.args.part.now c.args.endpoint) c.args.list.now c.loop-place.place _ c.in-Some.wrong inside
    (sym c.received_left.ensures ∙ c.in-Some.is))
    ∙ c.loop-place.invariant

pub loop-place-preserved : goal.loop-place-preserved
loop-place-preserved c =
    let inside : c.loop-place.place < length c.args.list.now = search rules in
    sym (in_later (wrongs.received_left c.args.part.now c.args.endpoint) c.args.list.now c.loop-place.place _ inside
    (sym c.received_left.ensures ∙ c.in-None.is))
    ∙ c.loop-place.invariant

pub returns : goal.returns
returns c =
    let past : length c.args.list.now ≤ c.loop-place.place = search rules in
    sym (in_none (wrongs.received_left c.args.part.now c.args.endpoint) c.args.list.now c.loop-place.place past) ∙ c.loop-place.invariant
