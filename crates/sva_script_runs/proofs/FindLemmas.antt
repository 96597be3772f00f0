-- What is found in a list from a place on.
use Rattle.std.proofs.Common.{◌≡◌, ◌∙◌, ap, sym, arith, ℕ, zero, suc, ◌≤◌, ◌<◌, List, [], ◌∷◌, Bool, true, false, cond, drop, length, Option, Some, None}
use Rattle.std.proofs.Common.{unwrap_or}
use Rattle.std.specs.Prelude.{find, slice_get}
use Rattle.std.proofs.Math.ListN.{drop_of_length-le}

pub find_here : {X : Type 0} (test : X → Bool) (xs : List X) (n : ℕ) (x : X) → slice_get xs n ≡ Some x → test x ≡ true → find test (drop n xs) ≡ Some x
find_here test [] n x at good = absurd (cc at)
find_here test (y ∷ xs) zero x at good = ap (λ t. cond t (Some y) (find test xs)) (ap test (ap (λ o. unwrap_or o y) at) ∙ good) ∙ at
find_here test (y ∷ xs) (suc n) x at good = find_here test xs n x at good

pub find_past : {X : Type 0} (test : X → Bool) (xs : List X) (n m : ℕ) (x : X) → m ≡ suc n → slice_get xs n ≡ Some x → test x ≡ false
    → find test (drop n xs) ≡ find test (drop m xs)
find_past test xs n m x next at other = past xs n at ∙ ap (λ i. find test (drop i xs)) (sym next)
  where
    past : (ys : List _) (i : ℕ) → slice_get ys i ≡ Some x → find test (drop i ys) ≡ find test (drop (suc i) ys)
    past [] i here = absurd (cc here)
    past (y ∷ ys) zero here = ap (λ t. cond t (Some y) (find test ys)) (ap test (ap (λ o. unwrap_or o y) here) ∙ other)
    past (y ∷ ys) (suc i) here = past ys i here

pub find_none : {X : Type 0} (test : X → Bool) (xs : List X) (n : ℕ) → length xs ≤ n → find test (drop n xs) ≡ None
find_none test xs n past = ap (find test) (drop_of_length-le xs past)

-- a place within has something
pub some_within : {X : Type 0} (xs : List X) (n : ℕ) → n < length xs → slice_get xs n ≡ None → ⊥
some_within [] n within none = omega (arith, within)
some_within (y ∷ xs) zero within none = cc none
some_within (y ∷ xs) (suc n) within none = some_within xs n (omega (arith, within)) none
