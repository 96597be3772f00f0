-- What is read of words, piece after piece.
use Rattle.std.proofs.Common.{◌≡◌, ◌∙◌, ◌+◌, ap, arith, refl, sym, ℕ, Bool, List, [], ◌∷◌, ◌++◌, length, map}
use Rattle.std.specs.Prelude.{◌||◌, Option, Result, Ok}
use Rattle.std.specs.Option.{unwrap_or}
use Rattle.std.specs.List.{list_any, position}
use Rattle.std.proofs.lemmas.List.{map_push}
use Rattle.sva_grammar.specs.Grammar.{◌>>=◌}
use Rattle.sva_script.proofs.PartLemmas.{position_map}
use Rattle.sva_race_texts.specs.declared.terms.races.Line.{Line}
use Rattle.sva_race_texts.specs.declared.faults.RaceStop.{RaceStop}
use Rattle.sva_race_texts.specs.declared.faults.RaceStop.TheVariants as stop
use Rattle.sva_race_texts.specs.declared.faults.RaceWrong.{RaceWrong}
use Rattle.sva_race_texts.specs.Conditions.{each_from, place_of}
use Rattle.sva_race_texts.specs.Seen.{has_name, line_seen}
use Rattle.sva_race_texts.specs.TakingWords.{Fails, appended}

-- ---- Pieces, one after another

-- by what the first is read as
abbrev more_of : {A : Type 0} → (one : ℕ → List (List ℕ) → Result A RaceWrong) → (at : ℕ) → List (List ℕ) → List (List (List ℕ))
    → Result (List A) RaceWrong → Result (List A) RaceWrong
more_of one at words rest read = read >>= λ more. each_from one (at + length words + 1) more rest

by_first : {A : Type 0} (one : ℕ → List (List ℕ) → Result A RaceWrong) (at : ℕ) (words : List (List ℕ)) (all rest : List (List (List ℕ)))
    (old : List A) → all ≡ words ∷ rest → each_from one at old all ≡ more_of one at words rest (appended old (one at words))
unfolding each_from
by_first one at words all rest old is = ap (each_from one at old) is

-- none is read yet
pub each_begin : {A B : Type 0} (one : ℕ → List (List ℕ) → Result A RaceWrong) (seen : B → A) (at : ℕ) (all : List (List (List ℕ)))
    (none : List B) → none ≡ [] → each_from one (at + 0) (map seen none) all ≡ each_from one at [] all
each_begin one seen at all none is = let start : at + 0 ≡ at = omega arith in λ i. each_from one (start i) (map seen (is i)) all

-- a piece that is read
pub each_next : {A B : Type 0} (one : ℕ → List (List ℕ) → Result A RaceWrong) (seen : B → A) (at next : ℕ) (words : List (List ℕ))
    (all rest : List (List (List ℕ))) (old new : List B) → all ≡ words ∷ rest → next ≡ at + length words + 1
    → appended (map seen old) (one at words) ≡ Ok (map seen new)
    → each_from one at (map seen old) all ≡ each_from one next (map seen new) rest
each_next one seen at next words all rest old new is on adds =
    by_first one at words all rest (map seen old) is ∙ ap (more_of one at words rest) adds
    ∙ ap (λ n. each_from one n (map seen new) rest) (sym on)

-- one that can't be read
pub each_fails : {A B : Type 0} (one : ℕ → List (List ℕ) → Result A RaceWrong) (seen : B → A) (at : ℕ) (words : List (List ℕ))
    (all rest : List (List (List ℕ))) (old : List B) (why : RaceStop) → all ≡ words ∷ rest
    → Fails (one at words) why → Fails (each_from one at (map seen old) all) why
each_fails one seen at words all rest old (stop.Wrong found) is bad =
    by_first one at words all rest (map seen old) is ∙ ap (λ read. more_of one at words rest (appended (map seen old) read)) bad
each_fails one seen at words all rest old stop.Memory is bad = tt

-- the last one
pub each_end : {A B : Type 0} (one : ℕ → List (List ℕ) → Result A RaceWrong) (seen : B → A) (at : ℕ) (words : List (List ℕ))
    (all : List (List (List ℕ))) (old new : List B) → all ≡ words ∷ [] → appended (map seen old) (one at words) ≡ Ok (map seen new)
    → each_from one at (map seen old) all ≡ Ok (map seen new)
unfolding each_from
each_end one seen at words all old new is adds =
    by_first one at words all [] (map seen old) is ∙ ap (more_of one at words []) adds

-- what was read is added
pub added : {A B : Type 0} (seen : B → A) (read : Result A RaceWrong) (old new : List B) (one : B) → read ≡ Ok (seen one)
    → new ≡ old ++ one ∷ [] → appended (map seen old) read ≡ Ok (map seen new)
added seen read old new one is pushed =
    ap (appended (map seen old)) is ∙ ap Ok (sym (map_push seen old one)) ∙ ap (λ l. Ok (map seen l)) (sym pushed)

-- ---- The place of a line

pub place_by : (lines : List Line) (name : List ℕ) (found : Option ℕ) → found ≡ position (λ line. has_name name (line_seen line)) lines
    → place_of (map line_seen lines) name ≡ unwrap_or found 0
place_by lines name found is = ap (λ place. unwrap_or place 0) (position_map line_seen (has_name name) lines ∙ sym is)

-- ---- Whether a line is such a one

pub any_seen : {A B : Type 0} (f : A → B) (p : B → Bool) (xs : List A)
    → list_any (λ x. p (f x)) xs ≡ list_any p (map f xs)
any_seen f p [] = refl
any_seen f p (x ∷ xs) = ap (λ b. p (f x) || b) (any_seen f p xs)
