-- The words of a line, taken off one after another.
use Rattle.std.proofs.Common.{◌≡◌, ◌∙◌, ap, ℕ, List, [], ◌∷◌, ◌++◌, Bool, true, false, cond, append-nil, refl, Option, Some, None, ◌&&◌}
use Rattle.std.specs.Prelude.{Result, Ok, Err, OnOk, IfSome, is_none}
use Rattle.std.specs.List.{onto_first, slice_split}
use denote.Ref.{Bor}
use Rattle.sva_script.specs.Expect.{are_as_expected, is_wanted}
use Rattle.sva_script.specs.Lines.{begins_comment, said, said_alone}

-- behind a comment nothing is said
pub said_comment : (words rest : List (List ℕ)) (word : List ℕ) → words ≡ word ∷ rest → begins_comment word ≡ true → said words ≡ []
unfolding said
said_comment words rest word split comment = ap said split ∙ ap (λ t. cond t [] (said_alone word ++ said rest)) comment

-- another word is said, and what follows it
pub said_more : (words rest : List (List ℕ)) (word : List ℕ) → words ≡ word ∷ rest → begins_comment word ≡ false → said words ≡ said_alone word ++ said rest
unfolding said
said_more words rest word split none = ap said split ∙ ap (λ t. cond t [] (said_alone word ++ said rest)) none

-- the last word
pub said_last : (words : List (List ℕ)) (word : List ℕ) → words ≡ word ∷ [] → begins_comment word ≡ false → said words ≡ said_alone word
unfolding said
said_last words word split none = said_more words [] word split none ∙ append-nil (said_alone word)

-- what holds where a call went well, by what it says
pub on_ok_by : {A E P Q : Type 0} (result : Result A E) → (P → Q) → OnOk result P → OnOk result Q
on_ok_by (Ok value) by holds = by holds
on_ok_by (Err error) by holds = holds

-- ---- Expected answers

-- there is always a word, though it may be empty
some_by : (p : ℕ → Bool) (x : ℕ) (xs : List ℕ) (t : Bool) → ((first : List ℕ) × (rest : List (List ℕ)) × (slice_split p xs ≡ first ∷ rest))
    → (first : List ℕ) × (rest : List (List ℕ)) × (cond t ([] ∷ slice_split p xs) (onto_first x (slice_split p xs)) ≡ first ∷ rest)
some_by p x xs true next = ([], slice_split p xs, refl)
some_by p x xs false (first, rest, is) = (x ∷ first, rest, ap (onto_first x) is)

some_word : (p : ℕ → Bool) (xs : List ℕ) → (first : List ℕ) × (rest : List (List ℕ)) × (slice_split p xs ≡ first ∷ rest)
some_word p [] = ([], [], refl)
some_word p (x ∷ xs) = some_by p x xs (p x) (some_word p xs)

no_more : (b : Bool) → (b && false) ≡ false
no_more true = refl
no_more false = refl

-- more words are wanted than there are
pub too_few : (p : ℕ → Bool) (wanted_words words : List (List ℕ)) (wanted_word word more : List ℕ) → wanted_words ≡ wanted_word ∷ slice_split p more
    → words ≡ word ∷ [] → are_as_expected wanted_words words ≡ false
too_few p wanted_words words wanted_word word more wanted there =
    let next = some_word p more in
    ap (λ ws. are_as_expected ws words) (wanted ∙ ap (λ ws. wanted_word ∷ ws) next.2) ∙ ap (are_as_expected (wanted_word ∷ next.0 ∷ next.1)) there
    ∙ no_more (is_wanted wanted_word word)

-- there are more than are wanted
pub too_many : (p : ℕ → Bool) (wanted_words : List (List ℕ)) (wanted_word answer : List ℕ) (found : Option (Bor (List ℕ) × Bor (List ℕ)))
    → wanted_words ≡ wanted_word ∷ [] → is_none found ≡ false → IfSome found (λ part. slice_split p answer ≡ part.0.now ∷ slice_split p part.1.now)
    → are_as_expected wanted_words (slice_split p answer) ≡ false
too_many p wanted_words wanted_word answer None wanted some split = absurd (cc some)
too_many p wanted_words wanted_word answer (Some part) wanted some split =
    let next = some_word p part.1.now in
    ap (λ ws. are_as_expected ws (slice_split p answer)) wanted
    ∙ ap (are_as_expected (wanted_word ∷ [])) (split ∙ ap (λ ws. part.0.now ∷ ws) next.2) ∙ no_more (is_wanted wanted_word part.0.now)
