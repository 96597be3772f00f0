use Rattle.std.proofs.Common.{◌≤◌, ◌<◌, ◌∙◌, arith, sym, subst, List, ℕ, length, rules}
use Rattle.std.specs.Prelude.{Result}
use Rattle.sva_race_texts.proofs.Lists.{said, said_length}
use Rattle.sva_driver_words.specs.Taking.{Fails}
use Rattle.sva_driver_words.specs.declared.faults.DriverWrong.{DriverWrong}
use Rattle.sva_driver_texts.proofs.Pages.{page_fails, page_next, pages_end}
use Rattle.sva_driver_texts.proofs.devices.pages_from.Goals as goal

pub loop-place-preserved : goal.loop-place-preserved
loop-place-preserved c =
    let here : c.loop-place.place < length c.args.words.now = search rules in
    let inside : c.loop-place.place < length (said c.args.words.now) = omega (arith, here, said_length c.args.words.now) in
    sym (page_next (said c.args.words.now) c.loop-place.place c.loop-place.pages.items c.add_page.new.pages.items inside c.in-Ok.ensures)
    ∙ c.loop-place.invariant

pub returns-in-Err : goal.returns-in-Err
returns-in-Err c =
    let here : c.loop-place.place < length c.args.words.now = search rules in
    let inside : c.loop-place.place < length (said c.args.words.now) = omega (arith, here, said_length c.args.words.now) in
    subst (λ (read : Result (List ℕ) DriverWrong). Fails read c.in-Err.stop) c.loop-place.invariant
    (page_fails (said c.args.words.now) c.loop-place.place c.loop-place.pages.items c.in-Err.stop inside c.in-Err.ensures)

pub returns : goal.returns
returns c =
    let end : length c.args.words.now ≤ c.loop-place.place = search rules in
    let past : length (said c.args.words.now) ≤ c.loop-place.place = omega (arith, end, said_length c.args.words.now) in
    sym c.loop-place.invariant ∙ pages_end (said c.args.words.now) c.loop-place.place c.loop-place.pages.items past
