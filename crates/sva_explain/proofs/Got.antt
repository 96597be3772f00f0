-- What stands at a place of a list, whatever is read past its end.
use Rattle.std.proofs.Common.{◌≡◌, ◌<◌, arith, refl, ℕ, zero, suc, List, [], ◌∷◌, get_or, length}

got_any : {A : Type 0} (xs : List A) (i : ℕ) (d e : A) → i < length xs → get_or xs i d ≡ get_or xs i e
got_any [] i d e within = absurd (omega (arith, within))
got_any (x ∷ xs) zero d e within = refl
got_any (x ∷ xs) (suc i) d e within = got_any xs i d e (omega (arith, within))

pub got_same : {A : Type 0} (xs : List A) (i : ℕ) (d : A) → i < length xs → get_or xs i d ≡ get_or xs i (get_or xs i d)
got_same xs i d within = got_any xs i d (get_or xs i d) within
