use Rattle.std.proofs.Common.{◌≡◌, ◌∙◌, ◌<◌, ap, rules, sym, true, false}
use Rattle.std.specs.Prelude.{Err, slice_get}
use Rattle.sva_driver_texts.specs.Texts.{is_left_out}
use Rattle.sva_driver_texts.specs.declared.kept.Halt.TheVariants as halt
use Rattle.sva_driver_texts.proofs.Firsts.{first_leak, first_next, first_past, first_stop, none_first}
use Rattle.sva_driver_texts.proofs.first.take_lines.Goals as goal

pub loop-place-init : goal.loop-place-init
loop-place-init c = none_first c.args.driver.now c.in_ok-spot.spot c.in_ok-spot.ensures

pub loop-place-preserved-then-is_left_out : goal.loop-place-preserved-then-is_left_out
loop-place-preserved-then-is_left_out c =
    let past : is_left_out c.loop-place.spot c.loop-place.place (slice_get c.args.driver.now.lines.items c.loop-place.place) ≡ true = search rules in
    first_past c.args.driver.now c.loop-place.place c.loop-place.spot c.loop-place.invariant past

pub loop-place-preserved : goal.loop-place-preserved
loop-place-preserved c =
    let ahead : is_left_out c.loop-place.spot c.loop-place.place (slice_get c.args.driver.now.lines.items c.loop-place.place) ≡ false = search rules in
    first_next c.args.driver.now c.loop-place.place c.in_ok-taken.taken c.loop-place.spot c.take_line.new.spot c.loop-place.invariant
    ahead c.in_ok-taken.ensures (search rules) (sym c.wrong_at.ensures ∙ c.in_default.is)

pub returns-then-not-taken : goal.returns-then-not-taken
returns-then-not-taken c =
    let ahead : is_left_out c.loop-place.spot c.loop-place.place (slice_get c.args.driver.now.lines.items c.loop-place.place) ≡ false = search rules in
    let inside : c.loop-place.place < c.args.count = search rules in
    sym (first_stop c.args.driver.now c.loop-place.place c.in_ok-taken.taken c.loop-place.spot c.take_line.new.spot c.loop-place.invariant
    ahead c.in_ok-taken.ensures c.args.count inside (search rules))

pub returns-in-Some : goal.returns-in-Some
returns-in-Some c =
    let ahead : is_left_out c.loop-place.spot c.loop-place.place (slice_get c.args.driver.now.lines.items c.loop-place.place) ≡ false = search rules in
    let inside : c.loop-place.place < c.args.count = search rules in
    ap (λ number. Err (halt.Leaks number c.in-Some.wrong)) c.number_at-number.ensures
    ∙ sym (first_leak c.args.driver.now c.loop-place.place c.in_ok-taken.taken c.loop-place.spot c.take_line.new.spot c.loop-place.invariant
    ahead c.in_ok-taken.ensures c.args.count c.in-Some.wrong inside (search rules) (sym c.wrong_at.ensures ∙ c.in-Some.is))
