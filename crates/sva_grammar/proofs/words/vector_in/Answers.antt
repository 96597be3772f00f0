use Rattle.std.proofs.Common.{◌<◌, ◌+◌, ◌*◌, ◌^◌, ◌≡◌, sym, arith, get_or, rules}
use Rattle.std.specs.Char.{digit_value}
use Rattle.sva_grammar.proofs.VectorLemmas.{next_digit, vector-not, vector-read}
use Rattle.sva_grammar.proofs.words.vector_in.Goals as goal

pub returns-then-not-is_vector : goal.returns-then-not-is_vector
returns-then-not-is_vector c = sym (vector-not c.args.word.now (sym (c.if-not-is_vector.ensures)))

pub overflow_mul-value : goal.overflow_mul-value
overflow_mul-value c =
    let next = next_digit c.args.word.now c.loop-byte.value c.loop-byte.byte-index (sym (c.if-not-is_vector.ensures))
    (search rules) c.loop-byte.invariant.digits
    c.loop-byte.invariant.value in
    let small : c.loop-byte.value * 16 < 2 ^ 32 = omega (arith, next.3) in
    search (rules, small)

pub overflow_add-value : goal.overflow_add-value
overflow_add-value c =
    let next = next_digit c.args.word.now c.loop-byte.value c.loop-byte.byte-index (sym (c.if-not-is_vector.ensures))
    (search rules) c.loop-byte.invariant.digits
    c.loop-byte.invariant.value in
    let worth : c.from.result ≡ digit_value (get_or c.args.word.now c.loop-byte.byte-index 0) = search rules in
    let small : c.loop-byte.value * 16 + c.from.result < 2 ^ 32 = omega (arith, next.3, worth) in
    search (rules, small)

pub returns : goal.returns
returns c =
    sym (vector-read c.args.word.now c.loop-byte.value c.loop-byte.byte-index (sym (c.if-not-is_vector.ensures)) (search rules) c.loop-byte.invariant.value)
