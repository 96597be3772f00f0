-- How many numbers pass, counted one after another.
use Rattle.std.proofs.Common.{◌≡◌, ◌∙◌, ap, arith, ℕ, suc, ◌+◌, ◌≤◌, Bool, true, false}
use Rattle.std.specs.Prelude.{if◌then◌else◌}
use Rattle.sva_model.specs.Words.{count_below}

pub count_next : (n : ℕ) (p : ℕ → Bool) → count_below (n + 1) p ≡ count_below n p + (if p n then 1 else 0)
unfolding count_below
count_next n p =
    let next : n + 1 ≡ suc n = omega arith in
    ap (λ m. count_below m p) next ∙ go (p n)
  where
    go : (b : Bool) → (if b then suc (count_below n p) else count_below n p) ≡ count_below n p + (if b then 1 else 0)
    go true = omega arith
    go false = omega arith

pub one_at_most : (b : Bool) (n : ℕ) → n ≡ (if b then 1 else 0) → n ≤ 1
one_at_most true n is = omega (arith, is)
one_at_most false n is = omega (arith, is)
