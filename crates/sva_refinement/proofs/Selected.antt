-- Lists of numbers that pass, each seen: seen alike, some left out, and more at the end.
use Rattle.std.proofs.Common.{◌≡◌, refl, ap, ap₂, sym, ◌∙◌, ℕ, zero, suc, ◌+◌, ◌<◌, Bool, true, false, arith}
use Rattle.std.specs.Prelude.{◌&&◌, if◌then◌else◌, cond, List, [], ◌∷◌, ◌++◌, map, filter}
use Rattle.std.proofs.lemmas.List.{map-append, append-nil, append_assoc}
use Rattle.sva_model.specs.Words.{select, tabulate}
use Rattle.sva_refinement.proofs.Picked.{picked_same}
pub use Rattle.sva_refinement.proofs.Picked.{filter_append as filter-append}

-- the numbers that pass, each seen; only those below n that pass matter
pub select_seen :
    {B : Type 0} (n : ℕ) (p q : ℕ → Bool) (f g : ℕ → B) → ((k : ℕ) → k < n → p k ≡ q k) → ((k : ℕ) → k < n → q k ≡ true → f k ≡ g k)
    → map f (select n p) ≡ map g (select n q)
select_seen n p q f g h k = picked_same n f g p q h (λ j l t. k j l (sym (h j l) ∙ t))

-- those of them that pass a test as they are seen
pub select_filtered : {B : Type 0} (n : ℕ) (p : ℕ → Bool) (f : ℕ → B) (t : B → Bool) → filter t (map f (select n p)) ≡ map f (select n (λ k. p k && t (f k)))
unfolding select
select_filtered zero p f t = refl
select_filtered (suc n) p f t =
    ap (filter t) (map-append f (select n p) (if p n then n ∷ [] else []))
    ∙ filter-append t (map f (select n p)) (map f (if p n then n ∷ [] else []))
    ∙ ap₂ (λ xs ys. xs ++ ys) (select_filtered n p f t) (last (p n) (t (f n)) refl)
    ∙ sym (map-append f (select n (λ k. p k && t (f k))) (if p n && t (f n) then n ∷ [] else []))
  where
    last : (b c : Bool) → t (f n) ≡ c → filter t (map f (if b then n ∷ [] else [])) ≡ map f (if b && c then n ∷ [] else [])
    last true true h = ap (λ z. cond z (f n ∷ []) []) h
    last true false h = ap (λ z. cond z (f n ∷ []) []) h
    last false c h = refl

-- more numbers, all of which pass
pub select_more :
    {B : Type 0} (n m : ℕ) (p : ℕ → Bool) (f : ℕ → B) → ((j : ℕ) → j < m → p (n + j) ≡ true)
    → map f (select (n + m) p) ≡ map f (select n p) ++ tabulate m (λ j. f (n + j))
unfolding select tabulate
select_more n zero p f h =
    let none : n + zero ≡ n = omega arith in
    ap (λ k. map f (select k p)) none ∙ sym (append-nil (map f (select n p)))
select_more n (suc m) p f h =
    let more : n + suc m ≡ suc (n + m) = omega arith in
    ap (λ k. map f (select k p)) more
    ∙ ap (λ b. map f (select (n + m) p ++ (if b then (n + m) ∷ [] else []))) (h m (omega arith))
    ∙ map-append f (select (n + m) p) ((n + m) ∷ [])
    ∙ ap (λ xs. xs ++ f (n + m) ∷ []) (select_more n m p f (λ j l. h j (omega arith)))
    ∙ append_assoc (map f (select n p)) (tabulate m (λ j. f (n + j))) (f (n + m) ∷ [])

-- a number more, which doesn't pass
pub select_less : {B : Type 0} (n : ℕ) (p : ℕ → Bool) (f : ℕ → B) → p n ≡ false → map f (select (suc n) p) ≡ map f (select n p)
unfolding select
select_less n p f h = ap (λ b. map f (select n p ++ (if b then n ∷ [] else []))) h ∙ ap (map f) (append-nil (select n p))

-- one number more, which passes
pub select_one : {B : Type 0} (n : ℕ) (p : ℕ → Bool) (f : ℕ → B) → p n ≡ true → map f (select (suc n) p) ≡ map f (select n p) ++ f n ∷ []
unfolding select
select_one n p f h = ap (λ b. map f (select n p ++ (if b then n ∷ [] else []))) h ∙ map-append f (select n p) (n ∷ [])

-- each of them changed as it is seen
pub map_twice : {A B C : Type 0} (g : B → C) (f : A → B) (xs : List A) → map g (map f xs) ≡ map (λ x. g (f x)) xs
map_twice g f [] = refl
map_twice g f (x ∷ xs) = ap (λ ys. g (f x) ∷ ys) (map_twice g f xs)
