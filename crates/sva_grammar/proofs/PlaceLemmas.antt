-- Lemmas on the words of a line and the places of the first of them.
use Rattle.std.proofs.Common.{◌≡◌, ◌≢◌, ◌<◌, ◌≤◌, ◌+◌, ◌∙◌, ap, sym, subst, arith, ℕ, zero, suc, List, [], ◌∷◌, Bool}
use Rattle.std.proofs.Common.{true, false, ◌||◌, cond, length, take, drop}
use Rattle.std.proofs.Common.{get_or, set, refl, eqb, Some, None}
use Rattle.std.specs.List.{onto_first, position, position_or_len}
use Rattle.std.proofs.lemmas.Bool.{eqb-true, ltb-false}
use Rattle.std.proofs.lemmas.List.{drop-drop}
use Rattle.std.proofs.lemmas.List.Recursion.{is_position_or_len}
use Rattle.sva_grammar.specs.Grammar.{word, words_of}
use Rattle.sva_grammar.specs.Places.{ends_word, in_places, line_in, line_len, word_len}
use Rattle.sva_grammar.proofs.LineLemmas.{within}

-- ---- The first word of a text and its first line

-- the bytes that `position` passes over
word_len-is : (text : List ℕ) → word_len text ≡ position_or_len ends_word text
word_len-is = is_position_or_len word_len ends_word refl (λ x xs. ap (λ n. cond (ends_word x) 0 n) (omega arith))

pub word_len-le : (text : List ℕ) → word_len text ≤ length text
word_len-le [] = omega arith
word_len-le (byte ∷ text) = within (ends_word byte) (word_len text) (length text) (word_len-le text)

found_at : (t : Bool) (p end : ℕ) → cond t (Some p) None ≡ Some end → p ≡ end
found_at true p end h = cc
found_at false p end h = absurd (cc)

pub not_found : (t : Bool) (p : ℕ) → cond t (Some p) None ≡ None → t ≡ false
not_found true p h = absurd (cc)
not_found false p h = refl

-- where `position` finds a byte that ends a word, the first word ends there
pub word_len-found : (text : List ℕ) (end : ℕ) → position ends_word text ≡ Some end → word_len text ≡ end
word_len-found text end h = word_len-is text ∙ found_at _ _ _ h

-- where it finds none, the text is one word
pub word_len-not_found : (text : List ℕ) → position ends_word text ≡ None → word_len text ≡ length text
word_len-not_found text h =
    let past : length text ≤ position_or_len ends_word text = ltb-false _ _ (not_found _ _ h) in
    omega (arith, past, word_len-is text, word_len-le text)

-- where no space ends the first word of a text, it is its first line
last_word : (byte : ℕ) (text : List ℕ) (space lf : Bool) → eqb byte 32 ≡ space → eqb byte 10 ≡ lf
    → ((word_len text < length text → get_or text (word_len text) 0 ≡ 10)
    → (line_len text ≡ word_len text) × (words_of (line_in text) ≡ take (word_len text) text ∷ []))
    → (cond (space || lf) 0 (suc (word_len text)) < suc (length text) → get_or (byte ∷ text) (cond (space || lf) 0 (suc (word_len text))) 0 ≡ 10)
    → (cond lf 0 (suc (line_len text)) ≡ cond (space || lf) 0 (suc (word_len text)))
    × (words_of (take (cond lf 0 (suc (line_len text))) (byte ∷ text)) ≡ take (cond (space || lf) 0 (suc (word_len text))) (byte ∷ text) ∷ [])
last_word byte text true true is_space is_lf next h = (refl, refl)
last_word byte text true false is_space is_lf next h = let lf : byte ≡ 10 = h (omega arith) in absurd (omega (arith, lf, eqb-true byte 32 is_space))
last_word byte text false true is_space is_lf next h = (refl, refl)
last_word byte text false false is_space is_lf next h =
    let rest = next (λ inside. h (omega (arith, inside))) in
    (ap suc rest.0, ap (λ t. cond t ([] ∷ words_of (line_in text)) (onto_first byte (words_of (line_in text)))) is_space ∙ ap (onto_first byte) rest.1)

pub words_of-last_word : (text : List ℕ) → (word_len text < length text → get_or text (word_len text) 0 ≡ 10)
    → (line_len text ≡ word_len text) × (words_of (line_in text) ≡ take (word_len text) text ∷ [])
words_of-last_word [] h = (refl, refl)
words_of-last_word (byte ∷ text) h = last_word byte text (eqb byte 32) (eqb byte 10) refl refl (words_of-last_word text) h

-- where a space ends it, the line goes on behind that
next_word : (byte : ℕ) (text : List ℕ) (space lf : Bool) → eqb byte 32 ≡ space → eqb byte 10 ≡ lf
    → (word_len text < length text → get_or text (word_len text) 0 ≢ 10
    → (line_len text ≡ word_len text + 1 + line_len (drop (suc (word_len text)) text))
    × (words_of (line_in text) ≡ take (word_len text) text ∷ words_of (line_in (drop (suc (word_len text)) text))))
    → cond (space || lf) 0 (suc (word_len text)) < suc (length text) → get_or (byte ∷ text) (cond (space || lf) 0 (suc (word_len text))) 0 ≢ 10
    → (cond lf 0 (suc (line_len text))
    ≡ cond (space || lf) 0 (suc (word_len text)) + 1 + line_len (drop (cond (space || lf) 0 (suc (word_len text))) text))
    × (words_of (take (cond lf 0 (suc (line_len text))) (byte ∷ text))
    ≡ take (cond (space || lf) 0 (suc (word_len text))) (byte ∷ text) ∷ words_of (line_in (drop (cond (space || lf) 0 (suc (word_len text))) text)))
next_word byte text true true is_space is_lf next inside h = absurd (omega (arith, eqb-true byte 32 is_space, eqb-true byte 10 is_lf))
next_word byte text true false is_space is_lf next inside h =
    (omega arith, ap (λ t. cond t ([] ∷ words_of (line_in text)) (onto_first byte (words_of (line_in text)))) is_space)
next_word byte text false true is_space is_lf next inside h = absurd (h (eqb-true byte 10 is_lf))
next_word byte text false false is_space is_lf next inside h =
    let rest = next (omega (arith, inside)) h in (
      omega (arith, rest.0),
      ap (λ t. cond t ([] ∷ words_of (line_in text)) (onto_first byte (words_of (line_in text)))) is_space ∙ ap (onto_first byte) rest.1,
    )

pub words_of-next_word : (text : List ℕ) → word_len text < length text → get_or text (word_len text) 0 ≢ 10
    → (line_len text ≡ word_len text + 1 + line_len (drop (suc (word_len text)) text))
    × (words_of (line_in text) ≡ take (word_len text) text ∷ words_of (line_in (drop (suc (word_len text)) text)))
words_of-next_word [] inside h = absurd (omega arith)
words_of-next_word (byte ∷ text) inside h = next_word byte text (eqb byte 32) (eqb byte 10) refl refl (words_of-next_word text) inside h

-- ---- A walk over the first line of a text, which has come to a word that begins at `start`

-- the word is the line's last
pub walk_ends : (text : List ℕ) (start count n : ℕ) → line_len text ≡ start + line_len (drop start text)
    → count + length (words_of (line_in (drop start text))) ≡ length (words_of (line_in text)) → word_len (drop start text) ≡ n
    → (n < length (drop start text) → get_or (drop start text) n 0 ≡ 10)
    → (line_len text ≡ start + n) × (suc count ≡ length (words_of (line_in text))) × (words_of (line_in (drop start text)) ≡ take n (drop start text) ∷ [])
walk_ends text start count n len counted is ends =
    let rest = drop start text in
    let last = words_of-last_word rest (subst (λ m. m < length rest → get_or rest m 0 ≡ 10) (sym is) ends) in
    (omega (arith, len, last.0, is), omega (arith, counted, ap length last.1), last.1 ∙ ap (λ m. take m rest ∷ []) is)

-- another word follows
pub walk_on : (text : List ℕ) (start count n : ℕ) → line_len text ≡ start + line_len (drop start text)
    → count + length (words_of (line_in (drop start text))) ≡ length (words_of (line_in text)) → word_len (drop start text) ≡ n
    → n < length (drop start text) → get_or (drop start text) n 0 ≢ 10
    → (line_len text ≡ start + n + 1 + line_len (drop (start + n + 1) text))
    × (count + 1 + length (words_of (line_in (drop (start + n + 1) text))) ≡ length (words_of (line_in text)))
    × (words_of (line_in (drop start text)) ≡ take n (drop start text) ∷ words_of (line_in (drop (start + n + 1) text)))
walk_on text start count n len counted is inside more =
    let rest = drop start text in
    let next = words_of-next_word rest (subst (λ m. m < length rest) (sym is) inside) (subst (λ m. get_or rest m 0 ≢ 10) (sym is) more) in
    let same : start + suc (word_len rest) ≡ start + n + 1 = omega (arith, is) in
    let at : drop (suc (word_len rest)) rest ≡ drop (start + n + 1) text = drop-drop (suc (word_len rest)) start text ∙ ap (λ m. drop m text) same in
    let words = next.1 ∙ ap (λ m. take m rest ∷ words_of (line_in (drop (suc (word_len rest)) rest))) is
    ∙ ap (λ t. take n rest ∷ words_of (line_in t)) at in
    (omega (arith, len, next.0, is, ap line_len at), omega (arith, counted, ap length words), words)

-- ---- Places

-- one word on
pub drop_next : (count : ℕ) (words rest : List (List ℕ)) (next : List ℕ) → drop count words ≡ next ∷ rest → drop (suc count) words ≡ rest
drop_next zero [] rest next h = absurd (cc)
drop_next zero (first ∷ words) rest next h = cc
drop_next (suc count) [] rest next h = absurd (cc)
drop_next (suc count) (first ∷ words) rest next h = drop_next count words rest next h

-- a word that has a place stands there
pub word-in_places : (places place : ℕ) (words : List (List ℕ)) → place < places → word place (in_places places words) ≡ word place words
word-in_places zero place words h = absurd (omega arith)
word-in_places (suc places) zero [] h = refl
word-in_places (suc places) (suc place) [] h = word-in_places places place [] (omega arith)
word-in_places (suc places) zero (first ∷ words) h = refl
word-in_places (suc places) (suc place) (first ∷ words) h = word-in_places places place words (omega arith)

-- the next word gets its place
pub in_places-more : (places count : ℕ) (words rest : List (List ℕ)) (next : List ℕ) → drop count words ≡ next ∷ rest
    → set (in_places places (take count words)) count next ≡ in_places places (take (suc count) words)
in_places-more zero count words rest next h = refl
in_places-more (suc places) zero [] rest next h = absurd (cc)
in_places-more (suc places) zero (first ∷ words) rest next h =
    let same : next ≡ first = cc in
    ap (λ w. w ∷ in_places places []) same
in_places-more (suc places) (suc count) [] rest next h = absurd (cc)
in_places-more (suc places) (suc count) (first ∷ words) rest next h = ap (λ ws. first ∷ ws) (in_places-more places count words rest next h)

-- a word behind the last place gets none
pub in_places-no_more : (places count : ℕ) (words : List (List ℕ)) → places ≤ count
    → in_places places (take count words) ≡ in_places places (take (suc count) words)
in_places-no_more zero count words h = refl
in_places-no_more (suc places) zero words h = absurd (omega arith)
in_places-no_more (suc places) (suc count) [] h = refl
in_places-no_more (suc places) (suc count) (first ∷ words) h = ap (λ ws. first ∷ ws) (in_places-no_more places count words (omega arith))
