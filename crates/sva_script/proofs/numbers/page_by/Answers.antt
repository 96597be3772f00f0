use Rattle.std.proofs.Common.{◌<◌, ◌+◌, ◌*◌, ◌^◌, ◌≡◌, sym, arith, get_or, rules}
use Rattle.std.specs.Char.{digit_value}
use Rattle.sva_script.proofs.HexLemmas.{next_digit, page-not, page-read, digits_fit}
use Rattle.sva_script.proofs.numbers.page_by.Goals as goal

pub returns-then-not-are_digits : goal.returns-then-not-are_digits
returns-then-not-are_digits c = sym (page-not c.args.digits.now (sym (c.if-not-are_digits.ensures)))

pub overflow_mul-page : goal.overflow_mul-page
overflow_mul-page c =
    let next = next_digit c.args.digits.now c.loop-byte.page c.loop-byte.byte-index (search rules)
    (digits_fit c.args.digits.now (sym (c.if-not-are_digits.ensures)))
    c.loop-byte.invariant.digits c.loop-byte.invariant.value in
    let small : c.loop-byte.page * 16 < 2 ^ 64 = omega (arith, next.3) in
    search (rules, small)

pub overflow_add-page : goal.overflow_add-page
overflow_add-page c =
    let next = next_digit c.args.digits.now c.loop-byte.page c.loop-byte.byte-index (search rules)
    (digits_fit c.args.digits.now (sym (c.if-not-are_digits.ensures)))
    c.loop-byte.invariant.digits c.loop-byte.invariant.value in
    let worth : c.from.result ≡ digit_value (get_or c.args.digits.now c.loop-byte.byte-index 0) = search rules in
    let small : c.loop-byte.page * 16 + c.from.result < 2 ^ 64 = omega (arith, next.3, worth) in
    search (rules, small)

pub returns : goal.returns
returns c =
    sym (page-read c.args.digits.now c.loop-byte.page c.loop-byte.byte-index (sym (c.if-not-are_digits.ensures)) (search rules) c.loop-byte.invariant.value)
