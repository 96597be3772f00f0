use Rattle.std.proofs.Common.{◌≡◌, ◌≤◌, ◌<◌, ◌∙◌, arith, sym, length, rules, true}
use Rattle.sva_race_texts.proofs.Lists.{said, said_length}
use Rattle.sva_driver_words.specs.Fields.{has_word}
use Rattle.sva_driver_texts.proofs.Codes.{code_next, code_wrong, codes_end, codes_some}
use Rattle.sva_driver_texts.proofs.settings.workers_of.Goals as goal

pub loop-at-preserved : goal.loop-at-preserved
loop-at-preserved c =
    let here : c.loop-at.at < length c.args.words.now = search rules in
    let inside : c.loop-at.at < length (said c.args.words.now) = omega (arith, here, said_length c.args.words.now) in
    sym (code_next (said c.args.words.now) c.loop-at.at c.loop-at.workers c.in-Ok.more inside (sym c.with_code.ensures ∙ c.in-Ok.is))
    ∙ c.loop-at.invariant

pub returns-in-Err : goal.returns-in-Err
returns-in-Err c =
    let here : c.loop-at.at < length c.args.words.now = search rules in
    let inside : c.loop-at.at < length (said c.args.words.now) = omega (arith, here, said_length c.args.words.now) in
    let some : has_word 1 (said c.args.words.now) ≡ true = search rules in
    sym (code_wrong (said c.args.words.now) c.loop-at.at c.loop-at.workers c.in-Err.wrong inside (sym c.with_code.ensures ∙ c.in-Err.is))
    ∙ c.loop-at.invariant ∙ sym (codes_some (said c.args.words.now) some)

pub returns : goal.returns
returns c =
    let end : length c.args.words.now ≤ c.loop-at.at = search rules in
    let past : length (said c.args.words.now) ≤ c.loop-at.at = omega (arith, end, said_length c.args.words.now) in
    let some : has_word 1 (said c.args.words.now) ≡ true = search rules in
    sym (codes_end (said c.args.words.now) c.loop-at.at c.loop-at.workers past)
    ∙ c.loop-at.invariant ∙ sym (codes_some (said c.args.words.now) some)
