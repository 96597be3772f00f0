-- What is found among things that are seen by what they have.
use Rattle.std.proofs.Common.{◌≡◌, ◌∙◌, ◌≤◌, ap, arith, refl, ℕ, zero, suc, List, [], ◌∷◌, length, map}
use Rattle.std.specs.Global.{Global}
use Rattle.std.specs.Prelude.{Vec, slice_set}
use Rattle.std.proofs.lemmas.List.{map-set}
use Rattle.std.specs.List.{list_any}
use Rattle.std.specs.Str.{bytes_eq}
use Rattle.sva_race_texts.proofs.PieceLemmas.{any_seen}

-- what is seen of what is seen
pub map_twice : {A B C : Type 0} (g : B → C) (f : A → B) (xs : List A) → map (λ x. g (f x)) xs ≡ map g (map f xs)
map_twice g f [] = refl
map_twice g f (x ∷ xs) = ap (λ rest. g (f x) ∷ rest) (map_twice g f xs)

-- what is put at a place, and what isn't
pub put_seen : {A B : Type 0} (f : A → B) (items new : List A) (place : ℕ) (one : A) (told : B) → new ≡ slice_set items place one → f one ≡ told
    → map f new ≡ slice_set (map f items) place told
put_seen f items new place one told is same =
    ap (map f) is ∙ map-set f items place one ∙ ap (slice_set (map f items) place) same

pub put_nowhere : {A B : Type 0} (f : A → B) (items : List A) (place : ℕ) (told : B) → length items ≤ place
    → map f items ≡ slice_set (map f items) place told
put_nowhere f [] place told past = refl
put_nowhere f (x ∷ xs) zero told past = absurd (omega (arith, past))
put_nowhere f (x ∷ xs) (suc place) told past = ap (λ l. f x ∷ l) (put_nowhere f xs place told (omega (arith, past)))

-- words that are owned
abbrev pub own : List (Vec ℕ Global) → List (List ℕ)
own words = map {A = Vec ℕ Global} {B = List ℕ} (λ word. word.items) words

pub any_own : (name : List ℕ) (words : List (Vec ℕ Global))
    → list_any (λ word. bytes_eq word.items name) words ≡ list_any (λ word. bytes_eq word name) (own words)
any_own name words = any_seen (λ (word : Vec ℕ Global). word.items) (λ word. bytes_eq word name) words
