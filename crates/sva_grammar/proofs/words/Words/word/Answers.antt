-- The first words stand at their places, and the parts that `split` gives are the words.
use Rattle.std.proofs.Common.{◌∙◌, [], ap, sym, rules, tests, eqb, refl}
use Rattle.std.proofs.lemmas.Iterator.Consumers.{nth_from_yields_List}
use Rattle.std.proofs.lemmas.Iterator.Splits.{YieldsList-from_slice_split}
use Rattle.std.proofs.Math.ListN.{get_or-map}
use Rattle.sva_grammar.specs.Grammar.{word, words_of}
use Rattle.sva_grammar.proofs.PlaceLemmas.{word-in_places}
use Rattle.sva_grammar.proofs.WordLemmas.{word_from_get}
use Rattle.sva_grammar.proofs.words.Words.word.Goals as goal

pub returns-then-place-lt-MOST_PLACES : goal.returns-then-place-lt-MOST_PLACES
returns-then-place-lt-MOST_PLACES c =
    sym (get_or-map (λ w. w.now) c.self.inside.places c.args.place (record { ref_ptr = (0, 0); now = [] })) ∙ ap (word c.args.place) c.self.invariant.placed
    ∙ word-in_places 7 c.args.place (words_of c.self.inside.line.now) c.if-place-lt-MOST_PLACES.true
    ∙ ap (λ line. word c.args.place (words_of line)) c.self.view_is

pub returns : goal.returns
returns c =
    let found = nth_from_yields_List c.nth.result _ c.args.place c.nth.ensures.ran
    (YieldsList-from_slice_split _ (λ b. eqb b 32) c.self.inside.line.now c.split-words.ensures.rest c.split-words.ensures.done
    c.split-words.ensures.closure (λ x b q k. search (rules, tests))) in
    ap (λ x. x.now) c.unwrap_or.ensures ∙ word_from_get c.nth.result _ _ c.args.place found refl ∙ ap (λ line. word c.args.place (words_of line)) c.self.view_is
