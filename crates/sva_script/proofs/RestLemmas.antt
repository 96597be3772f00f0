-- The words of a line at their places, one after another.
use Rattle.std.proofs.Common.{◌≡◌, ◌<◌, ◌≤◌, ◌+◌, sym, subst, arith, ℕ, List, [], ◌∷◌, append-nil, length, map, drop, get_or, Option, None}
use Rattle.std.proofs.lemmas.List.{drop_more}
use Rattle.std.proofs.Math.ListN.{drop_of_length-le}
use Rattle.std.specs.Prelude.{Result, Ok, Err}
use denote.Ref.{Bor}
use Rattle.sva_script.specs.declared.faults.Stop.{Stop}
use Rattle.sva_script.specs.declared.places.Field.{Field}
use Rattle.sva_script.specs.Expect.{expected_of, place_after, said_rest, said_word}
use Rattle.sva_script.specs.Names.{Known}
use Rattle.sva_script.specs.Pieces.{PutsRead, spaced}
use Rattle.sva_script.specs.Resolve.{ended, plain_rest, plain_word}
use Rattle.sva_script.proofs.PieceLemmas.{puts_more, puts_none}

abbrev pub said : List (Bor (List ℕ)) → List (List ℕ)
said words = map {A = Bor (List ℕ)} {B = List ℕ} (λ word. word.now) words

-- there is no place
pub no_places : (at : ℕ) (known : Known) (places : List Field) (words : List (List ℕ)) (text : List ℕ) (result : Result (Unit {0}) Stop)
    → length places < 1 → PutsRead (plain_rest at known [] words) text text result → PutsRead (plain_rest at known places words) text text result
no_places at known [] words text result few put = put
no_places at known (place ∷ places) words text result few put = absurd (omega (arith, few))

-- there is a place, and no word
pub no_words : (at : ℕ) (known : Known) (places : List Field) (words : List (Bor (List ℕ))) (other : Field) (text : List ℕ)
    (result : Result (Unit {0}) Stop) → 1 ≤ length places → length words < 1
    → PutsRead (ended at (get_or places 0 other)) text text result → PutsRead (plain_rest at known places (said words)) text text result
unfolding plain_rest
no_words at known [] words other text result some few put = absurd (omega (arith, some))
no_words at known (place ∷ places) [] other text result some few put = put
no_words at known (place ∷ places) (word ∷ words) other text result some few put = absurd (omega (arith, few))

-- a word at the first place, and what is put of the others
pub word_put : (at : ℕ) (known : Known) (places : List Field) (words : List (Bor (List ℕ))) (other : Field) (blank : Bor (List ℕ)) (old mid new : List ℕ)
    (done : Unit {0}) (result : Result (Unit {0}) Stop) → 1 ≤ length places → 1 ≤ length words
    → PutsRead (spaced (plain_word at known (get_or places 0 other) (get_or words 0 blank).now)) old mid (Ok done)
    → PutsRead (plain_rest (at + 1) known (drop 1 places) (said (drop 1 words))) mid new result
    → PutsRead (plain_rest at known places (said words)) old new result
unfolding plain_rest
word_put at known [] words other blank old mid new done result some more put next = absurd (omega (arith, some))
word_put at known (place ∷ places) [] other blank old mid new done result some more put next = absurd (omega (arith, more))
word_put at known (place ∷ places) (word ∷ words) other blank old mid new done result some more put next =
    puts_more (spaced (plain_word at known place word.now)) (plain_rest (at + 1) known places (said words)) old mid new done result put next

-- a word that can't be put at the first place
pub word_not_put : (at : ℕ) (known : Known) (places : List Field) (words : List (Bor (List ℕ))) (other : Field) (blank : Bor (List ℕ)) (old new : List ℕ)
    (why : Stop) → 1 ≤ length places → 1 ≤ length words
    → PutsRead {A = Unit {0}} (spaced (plain_word at known (get_or places 0 other) (get_or words 0 blank).now)) old new (Err why)
    → PutsRead {A = Unit {0}} (plain_rest at known places (said words)) old new (Err why)
unfolding plain_rest
word_not_put at known [] words other blank old new why some more put = absurd (omega (arith, some))
word_not_put at known (place ∷ places) [] other blank old new why some more put = absurd (omega (arith, more))
word_not_put at known (place ∷ places) (word ∷ words) other blank old new why some more put =
    puts_none (spaced (plain_word at known place word.now)) (plain_rest (at + 1) known places (said words)) old new why put

-- ---- The words of an expected answer

pub no_more_said : (at : ℕ) (known : Known) (place : Option Field) (words : List (Bor (List ℕ))) (i : ℕ) (text : List ℕ) (done : Unit {0})
    → length words ≤ i → PutsRead {A = Unit {0}} (said_rest at known place (said (drop i words))) text text (Ok done)
unfolding said_rest
no_more_said at known place words i text done past =
    subst (λ left. PutsRead {A = Unit {0}} (said_rest at known place (said left)) text text (Ok done)) (sym (drop_of_length-le words past))
    (sym (append-nil text))

-- a word that was put, and what is put of the others
pub word_said : (at : ℕ) (known : Known) (place : Option Field) (words : List (Bor (List ℕ))) (i : ℕ) (blank : Bor (List ℕ)) (old mid new : List ℕ)
    (done : Unit {0}) (result : Result (Unit {0}) Stop) → i < length words
    → PutsRead (spaced (said_word (at + i) known place (get_or words i blank).now)) old mid (Ok done)
    → PutsRead (said_rest (at + (i + 1)) known (place_after place (get_or words i blank).now) (said (drop (i + 1) words))) mid new result
    → PutsRead (said_rest (at + i) known place (said (drop i words))) old new result
unfolding said_rest
word_said at known place words i blank old mid new done result inside put next =
    let one : at + (i + 1) ≡ at + i + 1 = omega arith in
    subst (λ left. PutsRead (said_rest (at + i) known place (said left)) old new result) (sym (drop_more words i blank inside))
    (puts_more (spaced (said_word (at + i) known place (get_or words i blank).now))
    (said_rest (at + i + 1) known (place_after place (get_or words i blank).now) (said (drop (i + 1) words))) old mid new done result put
    (subst (λ n. PutsRead (said_rest n known (place_after place (get_or words i blank).now) (said (drop (i + 1) words))) mid new result) one next))

-- a word that couldn't be put
pub word_not_said : (at : ℕ) (known : Known) (place : Option Field) (words : List (Bor (List ℕ))) (i : ℕ) (blank : Bor (List ℕ)) (old new : List ℕ)
    (why : Stop) → i < length words
    → PutsRead {A = Unit {0}} (spaced (said_word (at + i) known place (get_or words i blank).now)) old new (Err why)
    → PutsRead {A = Unit {0}} (said_rest (at + i) known place (said (drop i words))) old new (Err why)
unfolding said_rest
word_not_said at known place words i blank old new why inside put =
    subst (λ left. PutsRead {A = Unit {0}} (said_rest (at + i) known place (said left)) old new (Err why)) (sym (drop_more words i blank inside))
    (puts_none (spaced (said_word (at + i) known place (get_or words i blank).now))
    (said_rest (at + i + 1) known (place_after place (get_or words i blank).now) (said (drop (i + 1) words))) old new why put)

-- an expected answer has a word
pub expected_some : (at : ℕ) (known : Known) (words : List (Bor (List ℕ))) (old new : List ℕ) (result : Result (Unit {0}) Stop) → 1 ≤ length words
    → PutsRead (said_rest at known None (said words)) old new result → PutsRead (expected_of at known (said words)) old new result
expected_some at known [] old new result some put = absurd (omega (arith, some))
expected_some at known (word ∷ words) old new result some put = put
