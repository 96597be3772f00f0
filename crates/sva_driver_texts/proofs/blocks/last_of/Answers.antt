use Rattle.std.proofs.Common.{◌≡◌, ◌∙◌, ◌<◌, ◌-◌, ap, sym, suc, Some, None, cond, false, get_or, take, true, length, map, arith, rules}
use Rattle.sva_driver_words.specs.Awaits.{last_from}
use Rattle.sva_driver_texts.specs.Blocks.{block_seen, is_of}
use Rattle.sva_driver_words.proofs.Lasts.{last_back}
use Rattle.sva_driver_texts.proofs.blocks.last_of.Goals as goal

pub returns-then-is_of : goal.returns-then-is_of
returns-then-is_of c =
    let list = c.args.list.now in
    let place = c.loop-place.place in
    let past : 0 < place = search rules in
    let inside : place - 1 < length list = search rules in
    let next : place ≡ suc (place - 1) = omega (arith, past) in
    let such : is_of c.args.thread.now (block_seen (get_or list (place - 1) c.index-list-place.result)) ≡ true = search rules in
    sym (ap (λ so. cond so (Some (place - 1)) (last_from (is_of c.args.thread.now) 0 None (map block_seen (take (place - 1) list)))) such)
    ∙ sym (last_back block_seen (is_of c.args.thread.now) list (place - 1) place c.index-list-place.result next inside)
    ∙ c.loop-place.invariant

pub loop-place-preserved : goal.loop-place-preserved
loop-place-preserved c =
    let list = c.args.list.now in
    let place = c.loop-place.place in
    let past : 0 < place = search rules in
    let inside : place - 1 < length list = search rules in
    let next : place ≡ suc (place - 1) = omega (arith, past) in
    let other : is_of c.args.thread.now (block_seen (get_or list (place - 1) c.index-list-place.result)) ≡ false = search rules in
    sym (ap (λ so. cond so (Some (place - 1)) (last_from (is_of c.args.thread.now) 0 None (map block_seen (take (place - 1) list)))) other)
    ∙ sym (last_back block_seen (is_of c.args.thread.now) list (place - 1) place c.index-list-place.result next inside)
    ∙ c.loop-place.invariant

pub returns : goal.returns
unfolding last_from
returns c =
    let none_left : c.loop-place.place ≡ 0 = search rules in
    ap (λ k. last_from (is_of c.args.thread.now) 0 None (map block_seen (take k c.args.list.now))) (sym none_left) ∙ c.loop-place.invariant
