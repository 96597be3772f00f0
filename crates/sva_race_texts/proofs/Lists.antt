-- Words as they are lent, and what is found among them.
use Rattle.std.proofs.Common.{◌≡◌, ◌∙◌, ◌<◌, ◌≤◌, ◌+◌, ◌-◌, ap, arith, min, refl, sym, ℕ, suc, zero, List, [], ◌∷◌, length}
use Rattle.std.proofs.Common.{Bool, true, false, cond, ltb, map, not, take, drop, Some, None}
use Rattle.std.specs.Prelude.{slice_get, slice_index_or}
use Rattle.std.specs.Option.{unwrap_or}
use Rattle.std.specs.List.{drop-map, onto_first, position, position_or_len, slice_split, take-map}
use Rattle.std.specs.Str.{bytes_eq}
use Rattle.std.proofs.lemmas.Bool.{le-ltb, ltb-false, ltb-true}
use Rattle.std.proofs.lemmas.List.{drop-drop, drop_all, length-drop, length-map, length-take-le}
use Rattle.std.proofs.lemmas.List.Splits.{slice_split_first}
use denote.Ref.{Bor}
use Rattle.sva_grammar.proofs.PlaceLemmas.{not_found}
use Rattle.sva_script.proofs.ItemLemmas.{found_at, to_end}
use Rattle.sva_script.proofs.PartLemmas.{position_map}

abbrev pub now : Bor (List ℕ) → List ℕ
now word = word.now

-- words as they are lent
abbrev pub said : List (Bor (List ℕ)) → List (List ℕ)
said words = map {A = Bor (List ℕ)} {B = List ℕ} (λ word. word.now) words

pub said_length : (words : List (Bor (List ℕ))) → length (said words) ≡ length words
said_length words = length-map words now

-- ---- Words at their places

pub word_or : (words : List (List ℕ)) (at : ℕ) → unwrap_or (slice_get words at) [] ≡ slice_index_or words at []
word_or [] at = refl
word_or (word ∷ words) zero = refl
word_or (word ∷ words) (suc at) = word_or words at

-- the words behind so many
pub words_behind : (words : List (Bor (List ℕ))) (count : ℕ) → said (take (length words - count) (drop count words)) ≡ drop count (said words)
words_behind words count = ap said (to_end count words) ∙ sym (drop-map now count words)

-- behind the last word there are none
least_by : (words : List (List ℕ)) (count start : ℕ) (b : Bool) → ltb (length words) count ≡ b → start ≡ min count (length words)
    → drop start words ≡ drop count words
least_by words count start true h is =
    let past : length words < count = ltb-true _ _ h in
    let all : length words ≤ start = omega (arith, is, past) in
    drop_all start words all ∙ sym (drop_all count words (omega (arith, past)))
least_by words count start false h is =
    let within : count ≤ length words = ltb-false _ _ h in
    let same : start ≡ count = omega (arith, is, within) in
    ap (λ n. drop n words) same

pub words_min : (words : List (Bor (List ℕ))) (count start : ℕ) → start ≡ min count (length words)
    → said (take (length words - start) (drop start words)) ≡ drop count (said words)
words_min words count start is =
    words_behind words start
    ∙ least_by (said words) count start (ltb (length (said words)) count) refl (is ∙ ap (min count) (sym (said_length words)))

pub behind_length : (words : List (Bor (List ℕ))) (count start : ℕ) → start ≡ min count (length words)
    → length (take (length words - start) (drop start words)) ≡ length words - count
behind_length words count start is =
    let left : length (take (length words - start) (drop start words)) ≡ length words - start =
    ap length (to_end start words) ∙ length-drop start words in
    omega (arith, left, is)

-- so many from a place on
pub words_between : (words : List (Bor (List ℕ))) (start count : ℕ)
    → said (take (start + count - start) (drop start words)) ≡ take count (drop start (said words))
words_between words start count =
    let same : start + count - start ≡ count = omega arith in
    ap (λ n. said (take n (drop start words))) same ∙ sym (take-map now count (drop start words)) ∙ ap (take count) (sym (drop-map now start words))

pub between_length : (words : List (Bor (List ℕ))) (start count : ℕ) → start + count ≤ length words
    → length (take (start + count - start) (drop start words)) ≡ count
between_length words start count within =
    let left : length (drop start words) ≡ length words - start = length-drop start words in
    let same : start + count - start ≡ count = omega arith in
    ap (λ n. length (take n (drop start words))) same ∙ length-take-le count (drop start words) (omega (arith, left, within))

-- ---- Lists at their separators

split_found : (p : List ℕ → Bool) (xs : List (List ℕ)) (i : ℕ) → position p xs ≡ Some i
    → slice_split p xs ≡ take i xs ∷ slice_split p (drop (i + 1) xs)
split_found p xs i h =
    let at = found_at _ _ i h in
    slice_split_first p xs [] (ltb-true _ _ at.0) ∙ ap (λ k. take k xs ∷ slice_split p (drop (k + 1) xs)) at.1

beyond : (n count : ℕ) → ltb (1 + n) (suc count) ≡ false → ltb n count ≡ false
beyond n count h = le-ltb _ _ (let past : suc count ≤ 1 + n = ltb-false _ _ h in omega (arith, past))

last_by : (p : List ℕ → Bool) (x : List ℕ) (xs : List (List ℕ)) (t : Bool)
    → (ltb (position_or_len p xs) (length xs) ≡ false → slice_split p xs ≡ xs ∷ [])
    → ltb (cond (not t) (1 + position_or_len p xs) 0) (suc (length xs)) ≡ false
    → cond t ([] ∷ slice_split p xs) (onto_first x (slice_split p xs)) ≡ (x ∷ xs) ∷ []
last_by p x xs true next h = absurd (let past = ltb-false 0 (suc (length xs)) h in omega (arith, past))
last_by p x xs false next h = ap (onto_first x) (next (beyond (position_or_len p xs) (length xs) h))

last : (p : List ℕ → Bool) (xs : List (List ℕ)) → ltb (position_or_len p xs) (length xs) ≡ false → slice_split p xs ≡ xs ∷ []
last p [] h = refl
last p (x ∷ xs) h = last_by p x xs (p x) (last p xs) h

split_last : (p : List ℕ → Bool) (xs : List (List ℕ)) → position p xs ≡ None → slice_split p xs ≡ xs ∷ []
split_last p xs h = last p xs (not_found _ _ h)

-- words from a place on, at the first of a separator
pub piece_found : (words rest : List (Bor (List ℕ))) (separator : List ℕ) (start count : ℕ) → said rest ≡ drop start (said words)
    → position (λ word. bytes_eq word.now separator) rest ≡ Some count
    → slice_split (λ word. bytes_eq word separator) (drop start (said words))
    ≡ take count (drop start (said words)) ∷ slice_split (λ word. bytes_eq word separator) (drop (start + (count + 1)) (said words))
piece_found words rest separator start count is found =
    split_found (λ word. bytes_eq word separator) (drop start (said words)) count
    (ap (position (λ word. bytes_eq word separator)) (sym is) ∙ position_map now (λ word. bytes_eq word separator) rest ∙ found)
    ∙ ap (λ l. take count (drop start (said words)) ∷ slice_split (λ word. bytes_eq word separator) l) (drop-drop (count + 1) start (said words))

pub piece_last : (words rest : List (Bor (List ℕ))) (separator : List ℕ) (start : ℕ) → said rest ≡ drop start (said words)
    → position (λ word. bytes_eq word.now separator) rest ≡ None
    → slice_split (λ word. bytes_eq word separator) (drop start (said words)) ≡ drop start (said words) ∷ []
piece_last words rest separator start is none =
    split_last (λ word. bytes_eq word separator) (drop start (said words))
    (ap (position (λ word. bytes_eq word separator)) (sym is) ∙ position_map now (λ word. bytes_eq word separator) rest ∙ none)
