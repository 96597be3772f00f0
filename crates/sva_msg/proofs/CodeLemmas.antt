-- Ranges as the code computes them: a size by a shift, and the ones below the first zero of a page number by their count.
use Rattle.std.specs.Prelude.{◌≡◌, ℕ, zero, suc, ◌+◌, ◌-◌, ◌*◌, ◌/◌, ◌%◌, ◌^◌, ◌<◌, ◌≤◌, true, Some, None, refl}
use Rattle.std.specs.Int.{bit_at, w64, trailing_ones}
use Rattle.std.proofs.Common.{arith, sym, ◌∙◌, ap}
use Rattle.std.proofs.lemmas.Nat.Bits.{bit_at_lowest, bit_at-suc, bit_at-trailing_ones}
use Rattle.std.proofs.Math.Nat.{pow-le-pow_right}
use Rattle.std.proofs.lemmas.Nat.{one_shl}
use Rattle.sva_model.specs.Range.{IsRange, ones, decode, range_about}
use Rattle.sva_model.proofs.RangeLemmas.{ones-even, ones-odd, decode-set, range_about-some, range_about-none, end-le, aligned_down}

-- t ones below a zero
lowest_ones : (n q t : ℕ) → ((i : ℕ) → i < t → bit_at q i ≡ 1) → bit_at q t ≡ 0 → t < n → ones n q ≡ t
lowest_ones zero q t set clear h = absurd (omega arith)
lowest_ones (suc n) q zero set clear h = ones-even (suc n) q (omega (arith, bit_at_lowest q))
lowest_ones (suc n) q (suc t) set clear h =
    let first : bit_at q 0 ≡ 1 = set 0 (omega arith) in
    ones-odd n q (omega (arith, bit_at_lowest q))
    ∙ ap suc (lowest_ones n (q / 2) t (λ i below. sym (bit_at-suc q i) ∙ set (suc i) (omega arith)) (sym (bit_at-suc q t) ∙ clear) (omega arith))

-- n ones
many_ones : (n q : ℕ) → ((i : ℕ) → i < n → bit_at q i ≡ 1) → ones n q ≡ n
many_ones zero q set = refl
many_ones (suc n) q set =
    let first : bit_at q 0 ≡ 1 = set 0 (omega arith) in
    ones-odd n q (omega (arith, bit_at_lowest q))
    ∙ ap suc (many_ones n (q / 2) (λ i below. sym (bit_at-suc q i) ∙ set (suc i) (omega arith)))

few : (q : ℕ) → q < 2 ^ 36 → trailing_ones w64 q < 9
    → decode (record { page = q; s = true }) ≡ range_about q (trailing_ones w64 q)
few q h small =
    let bits = bit_at-trailing_ones w64 q (omega arith) in
    decode-set q h ∙ ap (range_about q) (lowest_ones 9 q (trailing_ones w64 q) bits.2 bits.1 small)

pub many : (q : ℕ) → q < 2 ^ 36 → 9 ≤ trailing_ones w64 q → decode (record { page = q; s = true }) ≡ None
many q h large =
    let bits = bit_at-trailing_ones w64 q (omega arith) in
    let nine : ones 9 q ≡ 9 = many_ones 9 q (λ i below. bits.2 i (omega arith)) in
    decode-set q h ∙ ap (range_about q) nine ∙ range_about-none q 9 (omega arith)

-- a size, by a shift

next : (t : ℕ) → suc t ≡ t + 1
next t = omega arith

pub most : (k : ℕ) → k ≤ 9 → 1 * 2 ^ k % 2 ^ 64 ≤ 512
most k h =
    let two : 0 < 2 = omega arith in
    rw (one_shl k 64 (omega arith)) (pow-le-pow_right {n = 2} two h)

pub end : (b k : ℕ) → k ≤ 9 → b < 2 ^ 36 → b % 2 ^ k ≡ 0 → b + 1 * 2 ^ k % 2 ^ 64 ≤ 2 ^ 36
end b k h low aligned = rw (one_shl k 64 (omega arith)) (end-le b k (omega arith) low aligned)

-- the range that is read, and that it is one

pub read : (q t : ℕ) → q < 2 ^ 36 → t ≡ trailing_ones w64 q → t < 9
    → Some (record { base = q - q % (1 * 2 ^ (t + 1) % 2 ^ 64); order = t + 1 }) ≡ decode (record { page = q; s = true })
read q t h e small =
    rw (one_shl (t + 1) 64 (omega arith), ← next t)
    (sym (few q h (omega arith) ∙ ap (range_about q) (sym e) ∙ range_about-some q t small))

pub is_range : (q t : ℕ) → q < 2 ^ 36 → t < 9 → IsRange (record { base = q - q % (1 * 2 ^ (t + 1) % 2 ^ 64); order = t + 1 })
is_range q t h small =
    rw (one_shl (t + 1) 64 (omega arith))
    (record { small = omega arith; low = omega arith; aligned = aligned_down q (t + 1) })
