use Rattle.std.proofs.Common.{◌<◌, ◌≤◌, ◌∙◌, sym, length, rules}
use Rattle.sva_script.proofs.NearWordLemmas.{lent_here, lent_next, lent_none}
use Rattle.sva_script.proofs.reserved.near.Goals as goal

pub returns-then-is_near : goal.returns-then-is_near
returns-then-is_near c =
    let inside : c.loop-reserved.reserved-index < length c.args.words.now = search rules in
    sym (lent_here c.args.words.now c.loop-reserved.reserved-index c.args.word.now _ inside (sym c.is_near.ensures ∙ c.if-is_near.true))
    ∙ c.loop-reserved.invariant

pub loop-reserved-preserved : goal.loop-reserved-preserved
loop-reserved-preserved c =
    let inside : c.loop-reserved.reserved-index < length c.args.words.now = search rules in
    sym (lent_next c.args.words.now c.loop-reserved.reserved-index c.args.word.now _ inside (sym c.is_near.ensures ∙ c.if-is_near.false))
    ∙ c.loop-reserved.invariant

pub returns : goal.returns
returns c =
    let past : length c.args.words.now ≤ c.loop-reserved.reserved-index = search rules in
    sym (lent_none c.args.words.now c.loop-reserved.reserved-index c.args.word.now past) ∙ c.loop-reserved.invariant
