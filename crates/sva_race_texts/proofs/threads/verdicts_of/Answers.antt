use Rattle.std.proofs.Common.{◌≤◌, ◌<◌, ◌∙◌, arith, sym, length, rules}
use Rattle.sva_race_texts.proofs.Lists.{said}
use Rattle.sva_race_texts.proofs.ReadLemmas.{verdict_next, verdict_wrong, verdicts_end, verdicts_some}
use Rattle.sva_race_texts.proofs.threads.verdicts_of.Goals as goal

pub loop-place-preserved : goal.loop-place-preserved
loop-place-preserved c =
    let inside : c.loop-place.place < length c.args.words.now = search rules in
    sym (verdict_next c.args.words.now c.loop-place.place _ c.loop-place.verdicts c.in-Ok.more inside (sym c.with_verdict.ensures ∙ c.in-Ok.is))
    ∙ c.loop-place.invariant

pub returns-in-Err : goal.returns-in-Err
returns-in-Err c =
    let inside : c.loop-place.place < length c.args.words.now = search rules in
    let some : 2 ≤ length (said c.args.words.now) = omega (arith, c.count_of.ensures.said, c.if-count_of-lt2.false) in
    sym (verdict_wrong c.args.words.now c.loop-place.place _ c.loop-place.verdicts c.in-Err.wrong inside (sym c.with_verdict.ensures ∙ c.in-Err.is))
    ∙ c.loop-place.invariant ∙ sym (verdicts_some c.args.words.now some)

pub returns : goal.returns
returns c =
    let past : length c.args.words.now ≤ c.loop-place.place = search rules in
    let some : 2 ≤ length (said c.args.words.now) = omega (arith, c.count_of.ensures.said, c.if-count_of-lt2.false) in
    sym (verdicts_end c.args.words.now c.loop-place.place c.loop-place.verdicts past)
    ∙ c.loop-place.invariant ∙ sym (verdicts_some c.args.words.now some)
