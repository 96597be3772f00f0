use Rattle.std.proofs.Common.{◌<◌, ◌≤◌, ◌∙◌, sym, length, rules}
use Rattle.sva_script.proofs.NearWordLemmas.{lent_here, lent_next, lent_none}
use Rattle.sva_race_texts.proofs.faults.first_near.Goals as goal

pub returns-then-is_near : goal.returns-then-is_near
returns-then-is_near c =
    let inside : c.loop-known.known-index < length c.args.words.now = search rules in
    sym (lent_here c.args.words.now c.loop-known.known-index c.args.word.now _ inside (sym c.is_near.ensures ∙ c.if-is_near.true))
    ∙ c.loop-known.invariant

pub loop-known-preserved : goal.loop-known-preserved
loop-known-preserved c =
    let inside : c.loop-known.known-index < length c.args.words.now = search rules in
    sym (lent_next c.args.words.now c.loop-known.known-index c.args.word.now _ inside (sym c.is_near.ensures ∙ c.if-is_near.false))
    ∙ c.loop-known.invariant

pub returns : goal.returns
returns c =
    let past : length c.args.words.now ≤ c.loop-known.known-index = search rules in
    sym (lent_none c.args.words.now c.loop-known.known-index c.args.word.now past) ∙ c.loop-known.invariant
