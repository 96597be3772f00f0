-- What is read of pieces of words, one after another.
use Rattle.std.proofs.Common.{◌≡◌, ◌∙◌, ◌+◌, ap, arith, sym, ℕ, List, [], ◌∷◌, ◌++◌, length, map}
use Rattle.std.specs.Prelude.{Result, Ok}
use Rattle.std.proofs.lemmas.List.{length-map, map_push}
use Rattle.sva_grammar.specs.Grammar.{◌>>=◌}
use Rattle.sva_driver_words.specs.Descriptors.{each_from}
use Rattle.sva_driver_words.specs.Taking.{Fails, appended}
use Rattle.sva_driver_words.specs.declared.faults.DriverStop.{DriverStop}
use Rattle.sva_driver_words.specs.declared.faults.DriverStop.TheVariants as stop
use Rattle.sva_driver_words.specs.declared.faults.DriverWrong.{DriverWrong}

-- ---- Pieces, one after another

-- by what the first is read as
abbrev more_of : {A : Type 0} → (one : ℕ → ℕ → List (List ℕ) → Result A DriverWrong) → (at : ℕ) → List (List ℕ)
    → List (List (List ℕ)) → Result (List A) DriverWrong → Result (List A) DriverWrong
more_of one at words rest read = read >>= λ more. each_from one (at + length words + 1) more rest

by_first : {A : Type 0} (one : ℕ → ℕ → List (List ℕ) → Result A DriverWrong) (at : ℕ) (words : List (List ℕ))
    (all rest : List (List (List ℕ))) (old : List A) → all ≡ words ∷ rest
    → each_from one at old all ≡ more_of one at words rest (appended old (one (length old) at words))
unfolding each_from
by_first one at words all rest old is = ap (each_from one at old) is

-- as many were read as are kept
by_kept : {A B : Type 0} (one : ℕ → ℕ → List (List ℕ) → Result A DriverWrong) (seen : B → A) (at : ℕ)
    (words : List (List ℕ)) (all rest : List (List (List ℕ))) (old : List B) → all ≡ words ∷ rest
    → each_from one at (map seen old) all
    ≡ more_of one at words rest (appended (map seen old) (one (length old) at words))
by_kept one seen at words all rest old is =
    by_first one at words all rest (map seen old) is
    ∙ ap (λ count. more_of one at words rest (appended (map seen old) (one count at words))) (length-map old seen)

-- none is read yet
pub each_begin : {A B : Type 0} (one : ℕ → ℕ → List (List ℕ) → Result A DriverWrong) (seen : B → A) (at : ℕ)
    (all : List (List (List ℕ))) (none : List B) → none ≡ []
    → each_from one (at + 0) (map seen none) all ≡ each_from one at [] all
each_begin one seen at all none is =
    let start : at + 0 ≡ at = omega arith in λ i. each_from one (start i) (map seen (is i)) all

-- a piece that is read
pub each_next : {A B : Type 0} (one : ℕ → ℕ → List (List ℕ) → Result A DriverWrong) (seen : B → A) (at next : ℕ)
    (words : List (List ℕ)) (all rest : List (List (List ℕ))) (old new : List B) → all ≡ words ∷ rest
    → next ≡ at + length words + 1 → appended (map seen old) (one (length old) at words) ≡ Ok (map seen new)
    → each_from one at (map seen old) all ≡ each_from one next (map seen new) rest
each_next one seen at next words all rest old new is on adds =
    by_kept one seen at words all rest old is ∙ ap (more_of one at words rest) adds
    ∙ ap (λ n. each_from one n (map seen new) rest) (sym on)

-- one that can't be read
pub each_fails : {A B : Type 0} (one : ℕ → ℕ → List (List ℕ) → Result A DriverWrong) (seen : B → A) (at : ℕ)
    (words : List (List ℕ)) (all rest : List (List (List ℕ))) (old : List B) (why : DriverStop) → all ≡ words ∷ rest
    → Fails (one (length old) at words) why → Fails (each_from one at (map seen old) all) why
each_fails one seen at words all rest old (stop.Wrong found) is bad =
    by_kept one seen at words all rest old is
    ∙ ap (λ read. more_of one at words rest (appended (map seen old) read)) bad
each_fails one seen at words all rest old stop.Memory is bad = tt

-- the last one
pub each_end : {A B : Type 0} (one : ℕ → ℕ → List (List ℕ) → Result A DriverWrong) (seen : B → A) (at : ℕ)
    (words : List (List ℕ)) (all : List (List (List ℕ))) (old new : List B) → all ≡ words ∷ []
    → appended (map seen old) (one (length old) at words) ≡ Ok (map seen new)
    → each_from one at (map seen old) all ≡ Ok (map seen new)
unfolding each_from
each_end one seen at words all old new is adds =
    by_kept one seen at words all [] old is ∙ ap (more_of one at words []) adds

-- what was read is added
pub added : {A B : Type 0} (seen : B → A) (read : Result A DriverWrong) (old new : List B) (one : B) → read ≡ Ok (seen one)
    → new ≡ old ++ one ∷ [] → appended (map seen old) read ≡ Ok (map seen new)
added seen read old new one is pushed =
    ap (appended (map seen old)) is ∙ ap Ok (sym (map_push seen old one)) ∙ ap (λ l. Ok (map seen l)) (sym pushed)
