use Rattle.std.proofs.Common.{sym, rules}
use Rattle.sva_grammar.proofs.WordLemmas.{number-no_begin, number-read, number-stopped}
use Rattle.sva_grammar.proofs.words.number_in.Goals as goal

pub returns-then-not-begins_number : goal.returns-then-not-begins_number
returns-then-not-begins_number c = sym (number-no_begin c.args.word.now (sym (c.if-not-begins_number.ensures)))

pub returns-in_default : goal.returns-in_default
returns-in_default c =
    sym (number-stopped c.args.word.now c.loop-byte.value c.loop-byte.byte-index (search rules) c.loop-byte.invariant.value c.loop-byte.invariant.digits
    (search rules))

pub returns : goal.returns
returns c =
    sym (number-read c.args.word.now c.loop-byte.value c.loop-byte.byte-index (sym (c.if-not-begins_number.ensures)) (search rules)
    c.loop-byte.invariant.fits c.loop-byte.invariant.value c.loop-byte.invariant.digits)
