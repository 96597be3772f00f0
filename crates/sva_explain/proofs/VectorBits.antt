-- The bits of an ITag Vector.
use Rattle.std.proofs.Common.{◌≡◌, ◌∙◌, ap, refl, sym, ℕ, zero, suc, ◌<◌, ◌^◌, Bool, true, false, arith}
use Rattle.std.specs.Prelude.{not, ◌==◌, if◌then◌else◌}
use Rattle.std.specs.Int.{bit_at}
use Rattle.std.proofs.lemmas.Bool.Decides.{nat_tests}
use Rattle.std.proofs.lemmas.Nat.Bits.{bit_at-zero, bit_at-lt, same_from_bits_below}
use Rattle.sva_model.specs.Words.{any_below}
use Rattle.sva_model.specs.Labels.{is_set, names_none}
use Rattle.sva_labels.proofs.Words.{any_below-false}

no_bit : (n : ℕ) → n < 2 → (n == 1) ≡ false → n ≡ 0
no_bit n l h = grind (arith, nat_tests)

no_bits : (v : ℕ) → v < 2 ^ 32 → any_below 32 (is_set v) ≡ false → v ≡ 0
no_bits v l h =
    same_from_bits_below 32 v 0 l (omega arith)
    (λ i k. no_bit (bit_at v i) (bit_at-lt v i) (any_below-false 32 (is_set v) h i k) ∙ sym (bit_at-zero i))

none_of_zero : (n : ℕ) → any_below n (is_set 0) ≡ false
unfolding any_below
none_of_zero zero = refl
none_of_zero (suc n) = ap (λ b. if b == 1 then true else any_below n (is_set 0)) (bit_at-zero n) ∙ none_of_zero n

-- only the vector 0 names none
pub names_none_seen : (v : ℕ) → v < 2 ^ 32 → (v == 0) ≡ names_none v
names_none_seen v l = go (any_below 32 (is_set v)) refl
  where
    zero_is : v ≡ 0 → (v == 0) ≡ true
    zero_is h = grind (arith, nat_tests)

    other_is : (v ≡ 0 → any_below 32 (is_set v) ≡ false) → any_below 32 (is_set v) ≡ true → (b : Bool) → (v == 0) ≡ b → b ≡ false
    other_is f h false k = refl
    other_is f h true k =
        let is : v ≡ 0 = grind (arith, nat_tests) in
        absurd (cc (sym h ∙ f is))

    go : (b : Bool) → any_below 32 (is_set v) ≡ b → (v == 0) ≡ not b
    go false h = zero_is (no_bits v l h)
    go true h = other_is (λ z. ap (λ n. any_below 32 (is_set n)) z ∙ none_of_zero 32) h (v == 0) refl
