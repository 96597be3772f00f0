-- Whether one of a list passes, whatever its order.
use Rattle.std.proofs.Common.{◌≡◌, ◌⊎◌, inl, inr, refl, ap, sym, subst, ◌∙◌, ℕ, ◌<◌, Bool, true, false}
use Rattle.std.specs.Prelude.{if◌then◌else◌, ◌||◌, List, [], ◌∷◌, Some, slice_get}
use Rattle.std.specs.List.{list_any}
use Rattle.std.proofs.lemmas.Option.{slice_get-get_or}
use Rattle.sva_model.specs.Wire.{insert_by, sorted_by}
use Rattle.sva_model.specs.Words.{tabulate}
use Rattle.sva_labels.proofs.Lists.{tabulate_at, tabulate_length}

or_next : (a b c : Bool) → (a || (b || c)) ≡ (b || (a || c))
or_next true true c = refl
or_next true false c = refl
or_next false b c = refl

any_inserted : {A : Type 0} (p : A → Bool) (below : A → A → Bool) (x : A) (xs : List A) → list_any p (insert_by below x xs) ≡ (p x || list_any p xs)
any_inserted p below x [] = refl
any_inserted p below x (y ∷ ys) = go (below y x) (any_inserted p below x ys)
  where
    go : (b : Bool) → list_any p (insert_by below x ys) ≡ (p x || list_any p ys)
        → list_any p (if b then y ∷ insert_by below x ys else x ∷ y ∷ ys) ≡ (p x || (p y || list_any p ys))
    go true rest = ap (λ z. p y || z) rest ∙ or_next (p y) (p x) (list_any p ys)
    go false rest = refl

pub any_sorted : {A : Type 0} (p : A → Bool) (below : A → A → Bool) (xs : List A) → list_any p (sorted_by below xs) ≡ list_any p xs
any_sorted p below [] = refl
any_sorted p below (x ∷ xs) = any_inserted p below x (sorted_by below xs) ∙ ap (λ z. p x || z) (any_sorted p below xs)

pub tabulate_get : {A : Type 0} (n : ℕ) (f : ℕ → A) (k : ℕ) → k < n → slice_get (tabulate n f) k ≡ Some (f k)
tabulate_get n f k l =
    slice_get-get_or (tabulate n f) k (f k) (subst (λ z. k < z) (sym (tabulate_length n f)) l) ∙ ap Some (tabulate_at n f k (f k) l)

-- one of three
pub three : (a b c : Bool) → (a || b || c) ≡ true → (a ≡ true) ⊎ ((b ≡ true) ⊎ (c ≡ true))
three true b c h = inl refl
three false true c h = inr (inl refl)
three false false true h = inr (inr refl)
three false false false h = absurd (cc)

pub first_of_three : (a b c : Bool) → a ≡ true → (a || b || c) ≡ true
first_of_three true b c h = refl
first_of_three false b c h = absurd (cc)

pub second_of_three : (a b c : Bool) → b ≡ true → (a || b || c) ≡ true
second_of_three true true c h = refl
second_of_three false true c h = refl
second_of_three a false c h = absurd (cc)

pub third_of_three : (a b c : Bool) → c ≡ true → (a || b || c) ≡ true
third_of_three true true true h = refl
third_of_three true false true h = refl
third_of_three false true true h = refl
third_of_three false false true h = refl
third_of_three a b false h = absurd (cc)
