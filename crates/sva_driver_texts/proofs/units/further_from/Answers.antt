use Rattle.std.proofs.Common.{◌≡◌, ◌≤◌, ◌<◌, ◌∙◌, arith, sym, subst, List, ℕ, length, rules}
use Rattle.std.specs.Prelude.{Result, Ok}
use Rattle.sva_race_texts.proofs.Lists.{said, said_length}
use Rattle.sva_driver_words.specs.Taking.{Fails}
use Rattle.sva_driver_words.specs.declared.faults.DriverWrong.{DriverWrong}
use Rattle.sva_driver_texts.specs.Units.{with_further}
use Rattle.sva_driver_texts.proofs.Furthers.{further_end, further_fails, further_next}
use Rattle.sva_driver_texts.proofs.units.further_from.Goals as goal

pub loop-at-preserved : goal.loop-at-preserved
loop-at-preserved c =
    let here : c.loop-at.at < length c.args.words.now = search rules in
    let inside : c.loop-at.at < length (said c.args.words.now) = omega (arith, here, said_length c.args.words.now) in
    let more = subst (λ (own : List ℕ). with_further c.args.config.now own c.args.first c.loop-at.at (said c.args.words.now) ≡ Ok c.in-Ok.more.items)
    c.as_slice.ensures.value c.in-Ok.ensures in
    sym (further_next c.args.config.now c.args.first (said c.args.words.now) c.loop-at.at c.loop-at.units.items c.in-Ok.more.items inside more)
    ∙ c.loop-at.invariant

pub returns-in-Err : goal.returns-in-Err
returns-in-Err c =
    let here : c.loop-at.at < length c.args.words.now = search rules in
    let inside : c.loop-at.at < length (said c.args.words.now) = omega (arith, here, said_length c.args.words.now) in
    let fails = subst (λ (own : List ℕ). Fails (with_further c.args.config.now own c.args.first c.loop-at.at (said c.args.words.now)) c.in-Err.stop)
    c.as_slice.ensures.value c.in-Err.ensures in
    subst (λ (read : Result (List ℕ) DriverWrong). Fails read c.in-Err.stop) c.loop-at.invariant
    (further_fails c.args.config.now c.args.first (said c.args.words.now) c.loop-at.at c.loop-at.units.items c.in-Err.stop inside fails)

pub returns : goal.returns
returns c =
    let end : length c.args.words.now ≤ c.loop-at.at = search rules in
    let past : length (said c.args.words.now) ≤ c.loop-at.at = omega (arith, end, said_length c.args.words.now) in
    sym c.loop-at.invariant ∙ further_end c.args.config.now c.args.first (said c.args.words.now) c.loop-at.at c.loop-at.units.items past
