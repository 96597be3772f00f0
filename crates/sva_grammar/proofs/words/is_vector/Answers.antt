use Rattle.std.proofs.Common.{◌∙◌, ◌&&◌, ap, sym, rules, tests, eq-eqb}
use Rattle.std.specs.List.{list_all}
use Rattle.std.proofs.lemmas.Iterator.{YieldsList-from_slice}
use Rattle.std.proofs.lemmas.Iterator.Search.{all_from_yields_List}
use Rattle.sva_grammar.specs.Grammar.{is_vector_digit}
use Rattle.sva_grammar.proofs.words.is_vector.Goals as goal

pub returns-then-word-eq8 : goal.returns-then-word-eq8
returns-then-word-eq8 c =
    all_from_yields_List is_vector_digit _ _ c.all.result c.all.ensures.ran (YieldsList-from_slice c.args.word.now (cc)) (λ x b q k. search (rules, tests))
    ∙ sym (ap (λ t. t && list_all is_vector_digit c.args.word.now) (eq-eqb _ 8 c.if-word-eq8.true))
