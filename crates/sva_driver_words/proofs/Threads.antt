-- The place of a thread's first line is one of its lines.
use Rattle.std.proofs.Common.{◌≡◌, ◌<◌, sym, ℕ, Bool, List, [], ◌∷◌, length, Option, Some, None}
use Rattle.std.specs.Prelude.{IfSome, position}
use Rattle.std.proofs.lemmas.List.Quantifiers.{position-Some}

pub some_inside : {A : Type 0} (p : A → Bool) (xs : List A) (o : Option ℕ) → o ≡ position p xs → IfSome o (λ place. place < length xs)
some_inside p xs None is = tt
some_inside p [] (Some place) is = absurd (cc)
some_inside p (x ∷ xs) (Some place) is = (position-Some p (x ∷ xs) place x (sym is)).0
