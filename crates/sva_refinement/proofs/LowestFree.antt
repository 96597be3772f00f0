-- The lowest free place of a list of places is the lowest number at which one is free.
use Rattle.std.proofs.Common.{◌≡◌, refl, ap, ap₂, sym, ◌∙◌, ℕ, zero, suc, Bool, true, false, arith}
use Rattle.std.specs.Prelude.{if◌then◌else◌, ◌==◌, List, [], ◌∷◌, ◌++◌, length}
use Rattle.std.proofs.lemmas.Bool.Decides.{nat_tests}
use Rattle.sva_model.specs.Words.{step_lowest, lowest, tabulate}
use Rattle.sva_model.specs.Wire.{PlaceWire}
use Rattle.sva_labels.proofs.Lists.{tabulate_length}
use Rattle.sva_labels.specs.Places.{is_free, lowest_free}

one_more : (l n : ℕ) (b t : Bool) → (l == n) ≡ t → suc (step_lowest t l n b) ≡ step_lowest (suc l == suc n) (suc l) (suc n) b
one_more l n b true h = go b (next h)
  where
    next : (l == n) ≡ true → (suc l == suc n) ≡ true
    next h = grind (arith, nat_tests)

    go : (b : Bool) → (suc l == suc n) ≡ true → suc (step_lowest true l n b) ≡ step_lowest (suc l == suc n) (suc l) (suc n) b
    go true e = omega arith ∙ sym (ap (λ t. step_lowest t (suc l) (suc n) true) e)
    go false e = omega arith ∙ sym (ap (λ t. step_lowest t (suc l) (suc n) false) e)
one_more l n b false h = go (next h)
  where
    next : (l == n) ≡ false → (suc l == suc n) ≡ false
    next h = grind (arith, nat_tests)

    go : (suc l == suc n) ≡ false → suc (step_lowest false l n b) ≡ step_lowest (suc l == suc n) (suc l) (suc n) b
    go e = omega arith ∙ sym (ap (λ t. step_lowest t (suc l) (suc n) b) e)

differ : (n : ℕ) → (0 == suc n) ≡ false
differ n = grind (arith, nat_tests)

lowest_free_push : (xs : List PlaceWire) (x : PlaceWire) → lowest_free (xs ++ x ∷ [])
    ≡ step_lowest (lowest_free xs == length xs) (lowest_free xs) (length xs) (is_free x)
lowest_free_push [] x = go (is_free x)
  where
    go : (b : Bool) → (if b then 0 else suc 0) ≡ step_lowest true 0 0 b
    go true = refl
    go false = refl
lowest_free_push (y ∷ ys) x = go (is_free y) (lowest_free_push ys x)
  where
    go : (b : Bool) → lowest_free (ys ++ x ∷ []) ≡ step_lowest (lowest_free ys == length ys) (lowest_free ys) (length ys) (is_free x)
        → (if b then 0 else suc (lowest_free (ys ++ x ∷ [])))
        ≡ step_lowest ((if b then 0 else suc (lowest_free ys)) == suc (length ys)) (if b then 0 else suc (lowest_free ys)) (suc (length ys)) (is_free x)
    go true h = sym (ap (λ t. step_lowest t 0 (suc (length ys)) (is_free x)) (differ (length ys)))
    go false h = ap suc h ∙ one_more (lowest_free ys) (length ys) (is_free x) (lowest_free ys == length ys) refl

pub lowest_free_is : (n : ℕ) (g : ℕ → PlaceWire) → lowest_free (tabulate n g) ≡ lowest n (λ f. is_free (g f))
unfolding tabulate lowest
lowest_free_is zero g = refl
lowest_free_is (suc n) g =
    lowest_free_push (tabulate n g) (g n)
    ∙ ap₂ (λ l k. step_lowest (l == k) l k (is_free (g n))) (lowest_free_is n g) (tabulate_length n g)
