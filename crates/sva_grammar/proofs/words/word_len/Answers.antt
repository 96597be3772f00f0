-- The first word ends where `position` finds a byte that ends one.
use Rattle.std.proofs.Common.{◌∙◌, sym, rules, tests}
use Rattle.std.proofs.lemmas.Iterator.{YieldsList-from_slice}
use Rattle.std.proofs.lemmas.Iterator.Search.{position_from_yields_List}
use Rattle.sva_grammar.specs.Places.{ends_word}
use Rattle.sva_grammar.proofs.PlaceLemmas.{word_len-found, word_len-not_found}
use Rattle.sva_grammar.proofs.words.word_len.Goals as goal

pub returns-in-Some-clause-len : goal.returns-in-Some-clause-len
returns-in-Some-clause-len c =
    let found = position_from_yields_List ends_word _ _ c.position.result c.position.ensures.ran (YieldsList-from_slice c.args.text.now (cc))
    (λ x b q k. search (rules, tests)) in
    sym (word_len-found c.args.text.now c.in-Some.end (sym found ∙ c.in-Some.is))

pub returns-in-None-clause-len : goal.returns-in-None-clause-len
returns-in-None-clause-len c =
    let found = position_from_yields_List ends_word _ _ c.position.result c.position.ensures.ran (YieldsList-from_slice c.args.text.now (cc))
    (λ x b q k. search (rules, tests)) in
    sym (word_len-not_found c.args.text.now (sym found ∙ c.in-None.is))
