-- Lines, as far as a loop has come.
use Rattle.std.proofs.Common.{◌≡◌, ℕ, ◌+◌, ◌<◌, zero, suc, List, [], ◌∷◌, ◌++◌, length, get_or, map}
use Rattle.std.proofs.Common.{take, drop, flat_map, refl, sym, ap, ◌∙◌, arith, append_assoc}
use Rattle.std.specs.Prelude.{Result, Ok, Err, OnOk}
use Rattle.std.proofs.lemmas.List.{flat_map_more, map_more}
use Rattle.sva_lines.specs.Pieces.{rows}

-- what is said of each thing so far, and so with the next one
pub said_more : {A B : Type 0} (f : B → List ℕ) (g : A → B) (new out before : List ℕ) (xs : List A) (i : ℕ) (x : A) → i < length xs → x ≡ get_or xs i x
    → out ≡ before ++ flat_map f (map g (take i xs)) → new ≡ out ++ f (g x) → new ≡ before ++ flat_map f (map g (take (i + 1) xs))
said_more f g new out before xs i x below is so_far was =
    was
    ∙ ap (λ o. o ++ f (g x)) so_far
    ∙ flat_map_more f before (map g (take i xs)) (g x)
    ∙ ap (λ e. before ++ flat_map f (map g (take i xs) ++ g e ∷ [])) is
    ∙ ap (λ ys. before ++ flat_map f ys) (sym (map_more g xs i x below))

-- what is left to be said of a table's places begins with the next one
rows_left : {A B : Type 0} (f : ℕ → B → List ℕ) (g : A → B) (at : ℕ) (xs : List A) (i : ℕ) (d : A) → i < length xs
    → rows f at (map g (drop i xs)) ≡ f at (g (get_or xs i d)) ++ rows f (suc at) (map g (drop (i + 1) xs))
rows_left f g at [] i d below = absurd (omega (arith, below))
rows_left f g at (x ∷ xs) zero d below = refl
rows_left f g at (x ∷ xs) (suc i) d below =
    let e : suc (i + 1) ≡ suc i + 1 = omega arith in
    rows_left f g at xs i d (omega (arith, below)) ∙ ap (λ n. f at (g (get_or xs i d)) ++ rows f (suc at) (map g (drop n (x ∷ xs)))) e

pub rows_more : {A B : Type 0} (f : ℕ → B → List ℕ) (g : A → B) (new out whole : List ℕ) (xs : List A) (i : ℕ) (x : A) → i < length xs → x ≡ get_or xs i x
    → out ++ rows f i (map g (drop i xs)) ≡ whole → new ≡ out ++ f i (g x) → new ++ rows f (i + 1) (map g (drop (i + 1) xs)) ≡ whole
rows_more f g new out whole xs i x below is so_far was =
    let e : i + 1 ≡ suc i = omega arith in
    ap (λ o. o ++ rows f (i + 1) (map g (drop (i + 1) xs))) was
    ∙ ap (λ n. (out ++ f i (g x)) ++ rows f n (map g (drop (i + 1) xs))) e
    ∙ append_assoc out (f i (g x)) (rows f (suc i) (map g (drop (i + 1) xs)))
    ∙ ap (λ y. out ++ (f i (g y) ++ rows f (suc i) (map g (drop (i + 1) xs)))) is
    ∙ ap (λ rest. out ++ rest) (sym (rows_left f g i xs i x below))
    ∙ so_far

-- a text, and behind it another
pub both : {E : Type 0} (result : Result (Unit {0}) E) (old between new first second : List ℕ) → between ≡ old ++ first → OnOk result (new ≡ between ++ second)
    → OnOk result (new ≡ old ++ (first ++ second))
both (Ok done) old between new first second is was = was ∙ ap (λ o. o ++ second) is ∙ append_assoc old first second
both (Err fault) old between new first second is was = was
