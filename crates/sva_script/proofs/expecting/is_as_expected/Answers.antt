use Rattle.std.proofs.Common.{◌≡◌, ◌==◌, ◌∙◌, sym, false, rules}
use Rattle.std.specs.Prelude.{is_none}
use Rattle.sva_grammar.specs.Grammar.{words_of}
use Rattle.sva_script.proofs.WordLemmas.{too_few, too_many}
use Rattle.sva_script.proofs.expecting.is_as_expected.Goals as goal

pub returns-in_default-first_part : goal.returns-in_default-first_part
returns-in_default-first_part c =
    sym (too_few (λ byte. byte == 32) (words_of c.loop-wanted.expected.now) (words_of c.loop-wanted.answer.now) c.in-Some.wanted.now
    c.loop-wanted.answer.now c.in-Some.more.now c.in-Some.ensures.some c.in_default-first_part.ensures.none)
    ∙ c.loop-wanted.invariant

pub returns-else-is_none : goal.returns-else-is_none
returns-else-is_none c =
    let some : is_none c.first_part-2.result ≡ false = search rules in
    c.if-is_none.false
    ∙ sym (too_many (λ byte. byte == 32) (words_of c.loop-wanted.expected.now) c.loop-wanted.expected.now c.loop-wanted.answer.now
    c.first_part-2.result c.in_default.ensures.none some c.first_part-2.ensures.some)
    ∙ c.loop-wanted.invariant
