use Rattle.std.proofs.Common.{◌≡◌, ◌∙◌, ◌<◌, ◌-◌, ap, sym, suc, Some, None, cond, false, get_or, take, true, length, arith, rules}
use Rattle.sva_driver_words.specs.Awaits.{last_from, line_seen, submits_there}
use Rattle.sva_driver_words.proofs.Lasts.{last_back, seen}
use Rattle.sva_driver_words.proofs.awaits.last_wait.Goals as goal

pub returns-then-submits_there : goal.returns-then-submits_there
returns-then-submits_there c =
    let is_such = submits_there c.args.units.now c.args.thread.now c.args.endpoint in
    let lines = c.args.lines.now in
    let place = c.loop-place.place in
    let past : 0 < place = search rules in
    let inside : place - 1 < length lines = search rules in
    let next : place ≡ suc (place - 1) = omega (arith, past) in
    let such : submits_there c.args.units.now c.args.thread.now c.args.endpoint (line_seen (get_or lines (place - 1) c.index-lines-place.result))
    ≡ true = search rules in
    sym (ap (λ so. cond so (Some (place - 1)) (last_from is_such 0 None (seen (take (place - 1) lines)))) such)
    ∙ sym (last_back line_seen is_such lines (place - 1) place c.index-lines-place.result next inside)
    ∙ c.loop-place.invariant

pub loop-place-preserved : goal.loop-place-preserved
loop-place-preserved c =
    let is_such = submits_there c.args.units.now c.args.thread.now c.args.endpoint in
    let lines = c.args.lines.now in
    let place = c.loop-place.place in
    let past : 0 < place = search rules in
    let inside : place - 1 < length lines = search rules in
    let next : place ≡ suc (place - 1) = omega (arith, past) in
    let other : submits_there c.args.units.now c.args.thread.now c.args.endpoint (line_seen (get_or lines (place - 1) c.index-lines-place.result))
    ≡ false = search rules in
    sym (ap (λ so. cond so (Some (place - 1)) (last_from is_such 0 None (seen (take (place - 1) lines)))) other)
    ∙ sym (last_back line_seen is_such lines (place - 1) place c.index-lines-place.result next inside)
    ∙ c.loop-place.invariant

pub returns : goal.returns
unfolding last_from
returns c =
    let is_such = submits_there c.args.units.now c.args.thread.now c.args.endpoint in
    let none_left : c.loop-place.place ≡ 0 = search rules in
    ap (λ k. last_from is_such 0 None (seen (take k c.args.lines.now))) (sym none_left) ∙ c.loop-place.invariant
