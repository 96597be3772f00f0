-- Words that are near to one another, letter by letter; and the first of several that is.
use Rattle.std.proofs.Common.{◌≡◌, ◌==◌, ◌<◌, ◌≤◌, ◌+◌, ◌∙◌, ap, refl, arith, ℕ, List, [], ◌∷◌, true, false, cond, length, map, drop, get_or}
use Rattle.std.proofs.Common.{Some, None}
use Rattle.std.proofs.lemmas.List.{drop_more, drop_all}
use denote.Ref.{Bor}
use Rattle.sva_script.specs.Near.{is_changed, is_near, is_one_off, near_among}

-- behind a letter that both begin with
pub one_off_next : (word other : List ℕ) → 0 < length word → 0 < length other → (get_or word 0 0 == get_or other 0 0) ≡ true
    → is_one_off word other ≡ is_one_off (drop 1 word) (drop 1 other)
unfolding is_one_off
one_off_next [] other some more same = absurd (omega (arith, some))
one_off_next (first ∷ rest) [] some more same = absurd (omega (arith, more))
one_off_next (first ∷ rest) (other_first ∷ other_rest) some more same =
    ap (λ t. cond t (is_one_off rest other_rest) (is_changed (first ∷ rest) (other_first ∷ other_rest))) same

-- at the first letters that differ
pub one_off_here : (word other : List ℕ) → 0 < length word → 0 < length other → (get_or word 0 0 == get_or other 0 0) ≡ false
    → is_one_off word other ≡ is_changed word other
unfolding is_one_off
one_off_here [] other some more differ = absurd (omega (arith, some))
one_off_here (first ∷ rest) [] some more differ = absurd (omega (arith, more))
one_off_here (first ∷ rest) (other_first ∷ other_rest) some more differ =
    ap (λ t. cond t (is_one_off rest other_rest) (is_changed (first ∷ rest) (other_first ∷ other_rest))) differ

-- where the first word has no more letters
pub one_off_end : (word other : List ℕ) → length word ≤ 0 → is_one_off word other ≡ (length other == 1)
unfolding is_one_off
one_off_end [] other none = refl
one_off_end (first ∷ rest) other none = absurd (omega (arith, none))

-- where the other has none
pub one_off_other_end : (word other : List ℕ) → 0 < length word → length other ≤ 0 → is_one_off word other ≡ (length word == 1)
unfolding is_one_off
one_off_other_end [] other some none = absurd (omega (arith, some))
one_off_other_end (first ∷ rest) [] some none = refl
one_off_other_end (first ∷ rest) (other_first ∷ other_rest) some none = absurd (omega (arith, none))

-- ---- The first of several

-- the words that are lent
abbrev pub said : List (Bor (List ℕ)) → List (List ℕ)
said words = map {A = Bor (List ℕ)} {B = List ℕ} (λ word. word.now) words

-- the next one is near, or it isn't, or there is none
pub lent_here : (words : List (Bor (List ℕ))) (i : ℕ) (word : List ℕ) (blank : Bor (List ℕ)) → i < length words
    → is_near (get_or words i blank).now word ≡ true → near_among (said (drop i words)) word ≡ Some (get_or words i blank).now
lent_here words i word blank inside near =
    ap (λ left. near_among (said left) word) (drop_more words i blank inside)
    ∙ ap (λ t. cond t (Some (get_or words i blank).now) (near_among (said (drop (i + 1) words)) word)) near

pub lent_next : (words : List (Bor (List ℕ))) (i : ℕ) (word : List ℕ) (blank : Bor (List ℕ)) → i < length words
    → is_near (get_or words i blank).now word ≡ false → near_among (said (drop i words)) word ≡ near_among (said (drop (i + 1) words)) word
lent_next words i word blank inside far =
    ap (λ left. near_among (said left) word) (drop_more words i blank inside)
    ∙ ap (λ t. cond t (Some (get_or words i blank).now) (near_among (said (drop (i + 1) words)) word)) far

pub lent_none : (words : List (Bor (List ℕ))) (i : ℕ) (word : List ℕ) → length words ≤ i → near_among (said (drop i words)) word ≡ None
lent_none words i word past = ap (λ left. near_among (said left) word) (drop_all i words past)
