-- Endpoints below units of their own, and one more.
use Rattle.std.proofs.Common.{◌≡◌, ℕ, suc, List, [], ◌∷◌, ◌++◌, refl, ap, arith, ◌∙◌}
use Rattle.std.specs.Prelude.{◌+◌}
use Rattle.sva_driver_texts.specs.Units.{numbers_below}

pub none : [] ≡ numbers_below 0
unfolding numbers_below
none = refl

next : (n : ℕ) → numbers_below n ++ n ∷ [] ≡ numbers_below (suc n)
unfolding numbers_below
next n = refl

pub more : (n : ℕ) (list : List ℕ) → list ≡ numbers_below n → list ++ n ∷ [] ≡ numbers_below (n + 1)
more n list so_far =
    let one_more : suc n ≡ n + 1 = omega (arith) in
    (λ i. so_far i ++ n ∷ []) ∙ next n ∙ ap numbers_below one_more
