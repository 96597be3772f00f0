-- No number so far passes.
use Rattle.std.proofs.Common.{◌≡◌, ◌∙◌, ap, arith, refl, sym, ℕ, suc, ◌+◌, ◌≤◌, Bool, true, false, cond}
use Rattle.sva_labels.proofs.Words.{any_below-false, any_below-true}
use Rattle.sva_model.specs.Words.{any_below}

pub none_to_next : (n : ℕ) (p : ℕ → Bool) → p n ≡ false → any_below n p ≡ false → any_below (n + 1) p ≡ false
unfolding any_below
none_to_next n p here before =
    let next : n + 1 ≡ suc n = omega arith in
    ap (λ m. any_below m p) next ∙ ap (λ b. cond b true (any_below n p)) here ∙ before

pub none_within : (n m : ℕ) (p : ℕ → Bool) → m ≤ n → any_below n p ≡ false → any_below m p ≡ false
none_within n m p within none = by_test (any_below m p) refl
  where
    by_test : (test : Bool) → any_below m p ≡ test → test ≡ false
    by_test false is = refl
    by_test true is =
        let found = any_below-true m p is in
        absurd (cc (sym found.2 ∙ any_below-false n p none found.0 (omega (arith, within, found.1))))
