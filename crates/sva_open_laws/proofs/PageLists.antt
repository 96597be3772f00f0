-- Lists, and a function that leaves something out of their elements.
use Rattle.std.proofs.Common.{◌≡◌, ℕ, zero, suc, Bool, true, false, List, [], ◌∷◌, map, refl, ap}
use Rattle.std.specs.Prelude.{◌||◌, if◌then◌else◌, filter, remove}
use Rattle.std.specs.List.{list_any}

-- without one
pub less : {A : Type 0} (f : A → A) (xs : List A) (k : ℕ) → map f (remove xs k) ≡ remove (map f xs) k
less f [] zero = refl
less f [] (suc k) = refl
less f (x ∷ xs) zero = refl
less f (x ∷ xs) (suc k) = ap (λ l. f x ∷ l) (less f xs k)

-- a test that doesn't read what is left out
pub any : {A : Type 0} (p q : A → Bool) (f : A → A) → ((x : A) → p x ≡ q (f x)) → (xs : List A) → list_any p xs ≡ list_any q (map f xs)
any p q f h [] = refl
any p q f h (x ∷ xs) = λ i. h x i || any p q f h xs i

kept_by : {A : Type 0} (f : A → A) (x : A) (xs ys : List A) (b c : Bool) → b ≡ c → map f xs ≡ ys
    → map f (if b then (x ∷ xs) else xs) ≡ (if c then (f x ∷ ys) else ys)
kept_by f x xs ys true true h rest = ap (λ l. f x ∷ l) rest
kept_by f x xs ys false false h rest = rest
kept_by f x xs ys true false h rest = absurd (cc)
kept_by f x xs ys false true h rest = absurd (cc)

-- what passes such a test
pub kept : {A : Type 0} (p : A → Bool) (f : A → A) → ((x : A) → p x ≡ p (f x)) → (xs : List A) → map f (filter p xs) ≡ filter p (map f xs)
kept p f h [] = refl
kept p f h (x ∷ xs) = kept_by f x (filter p xs) (filter p (map f xs)) (p x) (p (f x)) (h x) (kept p f h xs)
