-- Ranges of pages are read from their codes.
use Rattle.std.specs.Prelude.{◌≡◌, ℕ, zero, suc, ◌+◌, ◌-◌, ◌*◌, ◌/◌, ◌%◌, ◌^◌, ◌<◌, ◌≤◌, Bool, true, false, ◌⊎◌, ◌↔◌, nat_lt, nat_le, IsTrue, Option, Some}
use Rattle.std.specs.Prelude.{None, IfSome, refl}
use Rattle.std.proofs.Common.{arith, sym, ◌∙◌, ap, inl, inr}
use Rattle.std.proofs.Math.Nat.{pow-suc, mul-le-mul_right, add-mul}
use Rattle.std.proofs.lemmas.Bool.{cases_lt, and_parts, and_from, ltb-true, leb-true, lt-ltb, le-ltb, le-leb}
use Rattle.std.proofs.lemmas.Nat.{pow_pos, pow-add, mod-pow-add, mod_below, shr_split, shr_below, mod_low}
use Rattle.sva_model.specs.Range.{Range, IsRange, RangeCode, pages_in, is_in, encode, encode_by, ones, range_about, decode, decode_by}
use Rattle.sva_model.specs.Ranges.{IsNoCode, AreCodes}

-- Bits from bit 0 upwards.

twice : (j : ℕ) → 2 ^ suc j ≡ 2 ^ j * 2
twice j = pow-suc 2 j

halves : (q j : ℕ) → q % 2 ^ suc j ≡ (q / 2 % 2 ^ j) * 2 + q % 2
halves q j =
    let next : suc j ≡ j + 1 = omega arith in
    ap (λ k. q % 2 ^ k) next ∙ mod-pow-add q j 1

pub ones-even : (n q : ℕ) → q % 2 < 1 → ones n q ≡ 0
ones-even zero q h = refl
ones-even (suc n) q h = let e : q % 2 ≡ 0 = omega arith in rw e refl

pub ones-odd : (n q : ℕ) → 1 ≤ q % 2 → ones (suc n) q ≡ suc (ones n (q / 2))
ones-odd n q h = let e : q % 2 ≡ 1 = omega arith in rw e refl

-- a page number with j bits set below the first clear one
pub ones-of : (n q j : ℕ) → j < n → q % 2 ^ suc j ≡ 2 ^ j - 1 → ones n q ≡ j
ones-of zero q j h e = absurd (omega arith)
ones-of (suc n) q zero h e = ones-even (suc n) q (omega arith)
ones-of (suc n) q (suc j) h e =
    let odd : 1 ≤ q % 2 = omega (arith, halves q (suc j), twice j, pow_pos j) in
    let rest : q / 2 % 2 ^ suc j ≡ 2 ^ j - 1 = omega (arith, halves q (suc j), twice j, pow_pos j) in
    ones-odd n q odd ∙ ap suc (ones-of n (q / 2) j (omega arith) rest)

-- a page number with the n lowest bits set
pub ones-all : (n q : ℕ) → q % 2 ^ n ≡ 2 ^ n - 1 → ones n q ≡ n
ones-all zero q e = refl
ones-all (suc n) q e =
    let odd : 1 ≤ q % 2 = omega (arith, halves q n, twice n, pow_pos n) in
    let rest : q / 2 % 2 ^ n ≡ 2 ^ n - 1 = omega (arith, halves q n, twice n, pow_pos n) in
    ones-odd n q odd ∙ ap suc (ones-all n (q / 2) rest)

pub ones-le : (n q : ℕ) → ones n q ≤ n
ones-le zero q = omega arith
ones-le (suc n) q = by (ones-le n (q / 2)) (cases_lt (q % 2) 1)
  where
    by : ones n (q / 2) ≤ n → (q % 2 < 1) ⊎ (1 ≤ q % 2) → ones (suc n) q ≤ suc n
    by rest (inl even) = rw (ones-even (suc n) q even) (omega arith)
    by rest (inr odd) = rw (ones-odd n q odd) (omega arith)

pub ones-are : (n q j : ℕ) → ones n q ≡ j → j < n → q % 2 ^ suc j ≡ 2 ^ j - 1
ones-are zero q j e h = absurd (omega arith)
ones-are (suc n) q j e h = by j e h (λ i same below. ones-are n (q / 2) i same below) (cases_lt (q % 2) 1)
  where
    by : (j : ℕ) → ones (suc n) q ≡ j → j < suc n
        → ((i : ℕ) → ones n (q / 2) ≡ i → i < n → q / 2 % 2 ^ suc i ≡ 2 ^ i - 1)
        → (q % 2 < 1) ⊎ (1 ≤ q % 2) → q % 2 ^ suc j ≡ 2 ^ j - 1
    by zero e h half (inl even) = omega arith
    by (suc j) e h half (inl even) = let none : 0 ≡ suc j = sym (ones-even (suc n) q even) ∙ e in absurd (omega arith)
    by zero e h half (inr odd) =
        let some : suc (ones n (q / 2)) ≡ 0 = sym (ones-odd n q odd) ∙ e in absurd (omega arith)
    by (suc j) e h half (inr odd) =
        let more : suc (ones n (q / 2)) ≡ suc j = sym (ones-odd n q odd) ∙ e in
        let rest : q / 2 % 2 ^ suc j ≡ 2 ^ j - 1 = half j (omega arith) (omega arith) in
        omega (arith, halves q (suc j), twice j, pow_pos j)

pub all-ones : (n q : ℕ) → ones n q ≡ n → q % 2 ^ n ≡ 2 ^ n - 1
all-ones zero q e = omega arith
all-ones (suc n) q e = by (λ same. all-ones n (q / 2) same) (cases_lt (q % 2) 1)
  where
    by : (ones n (q / 2) ≡ n → q / 2 % 2 ^ n ≡ 2 ^ n - 1) → (q % 2 < 1) ⊎ (1 ≤ q % 2) → q % 2 ^ suc n ≡ 2 ^ suc n - 1
    by half (inl even) = let none : 0 ≡ suc n = sym (ones-even (suc n) q even) ∙ e in absurd (omega arith)
    by half (inr odd) =
        let more : suc (ones n (q / 2)) ≡ suc n = sym (ones-odd n q odd) ∙ e in
        let rest : q / 2 % 2 ^ n ≡ 2 ^ n - 1 = half (omega arith) in
        omega (arith, halves q n, twice n, pow_pos n)

-- What a code is read as.

pub decode-high : (q : ℕ) (s : Bool) → 2 ^ 36 ≤ q → decode (record { page = q; s = s }) ≡ None
decode-high q s h = ap (λ t. decode_by t (record { page = q; s = s })) (le-ltb q (2 ^ 36) h)

pub decode-clear : (q : ℕ) → q < 2 ^ 36 → decode (record { page = q; s = false }) ≡ Some (record { base = q; order = 0 })
decode-clear q h = ap (λ t. decode_by t (record { page = q; s = false })) (lt-ltb q (2 ^ 36) h)

pub decode-set : (q : ℕ) → q < 2 ^ 36 → decode (record { page = q; s = true }) ≡ range_about q (ones 9 q)
decode-set q h = ap (λ t. decode_by t (record { page = q; s = true })) (lt-ltb q (2 ^ 36) h)

pub range_about-some : (q j : ℕ) → j < 9 → range_about q j ≡ Some (record { base = q - q % 2 ^ suc j; order = suc j })
range_about-some q j h = rw (lt-ltb j 9 h) refl

pub range_about-none : (q j : ℕ) → 9 ≤ j → range_about q j ≡ None
range_about-none q j h = rw (le-ltb j 9 h) refl

-- what holds of what each code is read as: no page number, s clear, and s set with j bits set, fewer than nine or all nine
pub by_code : (P : RangeCode → Option Range → Type 0)
    → ((q : ℕ) (s : Bool) → 2 ^ 36 ≤ q → P (record { page = q; s = s }) None)
    → ((q : ℕ) → q < 2 ^ 36 → P (record { page = q; s = false }) (Some (record { base = q; order = 0 })))
    → ((q j : ℕ) → q < 2 ^ 36 → j < 9 → q % 2 ^ suc j ≡ 2 ^ j - 1
    → P (record { page = q; s = true }) (Some (record { base = q - q % 2 ^ suc j; order = suc j })))
    → ((q : ℕ) → q < 2 ^ 36 → q % 2 ^ 9 ≡ 2 ^ 9 - 1 → P (record { page = q; s = true }) None)
    → (c : RangeCode) → P c (decode c)
by_code P high clear set full c = at c.page c.s (cases_lt c.page (2 ^ 36))
  where
    in_set : (q : ℕ) → q < 2 ^ 36 → (ones 9 q < 9) ⊎ (9 ≤ ones 9 q) → P (record { page = q; s = true }) (decode (record { page = q; s = true }))
    in_set q h (inl few) =
        rw (decode-set q h, range_about-some q (ones 9 q) few)
        (set q (ones 9 q) h few (ones-are 9 q (ones 9 q) refl few))
    in_set q h (inr many) =
        let nine : ones 9 q ≡ 9 = omega (arith, ones-le 9 q) in
        rw (decode-set q h, range_about-none q (ones 9 q) many) (full q h (all-ones 9 q nine))

    at : (q : ℕ) (s : Bool) → (q < 2 ^ 36) ⊎ (2 ^ 36 ≤ q) → P (record { page = q; s = s }) (decode (record { page = q; s = s }))
    at q s (inr h) = rw (decode-high q s h) (high q s h)
    at q false (inl h) = rw (decode-clear q h) (clear q h)
    at q true (inl h) = in_set q h (cases_lt (ones 9 q) 9)

-- Ranges.

-- a range of 2^k pages from b on, aligned to its size, ends at 2^36 or below
pub end-le : (b k : ℕ) → k ≤ 36 → b < 2 ^ 36 → b % 2 ^ k ≡ 0 → b + 2 ^ k ≤ 2 ^ 36
end-le b k small low aligned =
    let parts : 36 - k + k ≡ 36 = omega arith in
    let whole : 2 ^ 36 ≡ 2 ^ (36 - k) * 2 ^ k = sym (ap (λ n. 2 ^ n) parts) ∙ pow-add 2 (36 - k) k in
    let under : b / 2 ^ k < 2 ^ (36 - k) = shr_below b (36 - k) k (rw parts low) in
    let more : (b / 2 ^ k + 1) * 2 ^ k ≤ 2 ^ (36 - k) * 2 ^ k = mul-le-mul_right (2 ^ k) (omega arith) in
    let times : (b / 2 ^ k + 1) * 2 ^ k ≡ b / 2 ^ k * 2 ^ k + 1 * 2 ^ k = add-mul (b / 2 ^ k) 1 (2 ^ k) in
    omega (arith, shr_split b k)

-- a page of a range, by how many pages stand before it
inside : (b k d : ℕ) → b % 2 ^ k ≡ 0 → d < 2 ^ k → (b + d) % 2 ^ k ≡ d
inside b k d aligned h =
    let parts : b / 2 ^ k * 2 ^ k ≡ b = omega (arith, shr_split b k) in
    rw (← parts) (mod_low (b / 2 ^ k) k d h)

read_back : (b k : ℕ) → k ≤ 9 → b < 2 ^ 36 → b % 2 ^ k ≡ 0 → decode (encode_by b k) ≡ Some (record { base = b; order = k })
read_back b zero small low aligned = decode-clear b low
read_back b (suc j) small low aligned =
    let end : b + 2 ^ suc j ≤ 2 ^ 36 = end-le b (suc j) (omega arith) low aligned in
    let below : b + (2 ^ j - 1) < 2 ^ 36 = omega (arith, twice j, pow_pos j) in
    let bits : (b + (2 ^ j - 1)) % 2 ^ suc j ≡ 2 ^ j - 1 = inside b (suc j) (2 ^ j - 1) aligned (omega (arith, twice j, pow_pos j)) in
    let count : ones 9 (b + (2 ^ j - 1)) ≡ j = ones-of 9 (b + (2 ^ j - 1)) j (omega arith) bits in
    let base : b + (2 ^ j - 1) - (b + (2 ^ j - 1)) % 2 ^ suc j ≡ b = omega arith in
    decode-set (b + (2 ^ j - 1)) below ∙ ap (range_about (b + (2 ^ j - 1))) count ∙ range_about-some (b + (2 ^ j - 1)) j (omega arith)
    ∙ ap (λ n. Some (record { base = n; order = suc j })) base

same_some : (r t : Range) → Some r ≡ Some t → r ≡ t
same_some r t h = cc

pub aligned_down : (q k : ℕ) → (q - q % 2 ^ k) % 2 ^ k ≡ 0
aligned_down q k =
    let parts : q / 2 ^ k * 2 ^ k + 0 ≡ q - q % 2 ^ k = omega (arith, shr_split q k) in
    rw (← parts) (mod_low (q / 2 ^ k) k 0 (pow_pos k))

mod_le : (q k : ℕ) → q % 2 ^ k ≤ q
mod_le q k = omega (arith, shr_split q k)

in_limits : (c : RangeCode) → IfSome (decode c) IsRange
in_limits =
    by_code (λ c o. IfSome o IsRange)
    (λ q s high. tt)
    (λ q low. record { small = omega arith; low = low; aligned = omega arith })
    (λ q j low few bits. record { small = omega arith; low = omega arith; aligned = aligned_down q (suc j) })
    (λ q low bits. tt)

written_back : (c : RangeCode) → IfSome (decode c) (λ r. encode r ≡ c)
written_back =
    by_code (λ c o. IfSome o (λ r. encode r ≡ c))
    (λ q s high. tt)
    (λ q low. refl)
    (λ q j low few bits.
    let same : q - q % 2 ^ suc j + (2 ^ j - 1) ≡ q = omega (arith, mod_le q (suc j)) in
    ap (λ n. record { page = n; s = true }) same)
    (λ q low bits. tt)

some_none : (r : Range) → Some r ≡ None → ⊥
some_none r e = cc

none_exactly : (c : RangeCode) → (decode c ≡ None) ↔ IsNoCode c
none_exactly =
    by_code (λ c o. (o ≡ None) ↔ IsNoCode c)
    (λ q s high. ((λ e. inl high), (λ e. refl)))
    (λ q low. ((λ e. absurd (some_none (record { base = q; order = 0 }) e)), (λ no. absurd (clear q low no))))
    (λ q j low few bits. ((λ e. absurd (some_none (record { base = q - q % 2 ^ suc j; order = suc j }) e)), (λ no. absurd (some q j low few bits no))))
    (λ q low bits. ((λ e. inr (refl, bits)), (λ e. refl)))
  where
    clear : (q : ℕ) → q < 2 ^ 36 → IsNoCode (record { page = q; s = false }) → ⊥
    clear q low (inl high) = omega arith
    clear q low (inr both) = cc both.0

    some : (q j : ℕ) → q < 2 ^ 36 → j < 9 → q % 2 ^ suc j ≡ 2 ^ j - 1 → IsNoCode (record { page = q; s = true }) → ⊥
    some q j low few bits (inl high) = omega arith
    some q j low few bits (inr both) =
        let all : ones 9 q ≡ 9 = ones-all 9 q both.1 in
        let count : ones 9 q ≡ j = ones-of 9 q j few bits in
        omega arith

covered : (r : Range) → IsRange r → (q : ℕ) → IsTrue (is_in r q) ↔ (q - q % pages_in r ≡ r.base)
covered r h q = (there, back)
  where
    there : IsTrue (is_in r q) → q - q % pages_in r ≡ r.base
    there is =
        let both = and_parts (nat_le r.base q) (nat_lt q (r.base + pages_in r)) is in
        let from : r.base ≤ q = leb-true r.base q both.0 in
        let to : q < r.base + pages_in r = ltb-true q (r.base + pages_in r) both.1 in
        let sum : r.base + (q - r.base) ≡ q = omega arith in
        let bits : q % pages_in r ≡ q - r.base = ap (λ n. n % pages_in r) (sym sum) ∙ inside r.base r.order (q - r.base) h.aligned (omega arith) in
        omega arith

    back : q - q % pages_in r ≡ r.base → IsTrue (is_in r q)
    back e =
        let from : r.base ≤ q = omega arith in
        let to : q < r.base + pages_in r = omega (arith, mod_below q (pages_in r) (pow_pos r.order), mod_le q r.order) in
        and_from (nat_le r.base q) (nat_lt q (r.base + pages_in r)) (le-leb r.base q from) (lt-ltb q (r.base + pages_in r) to)

pub decode-encode : (r : Range) → IsRange r → decode (encode r) ≡ Some r
decode-encode r h = read_back r.base r.order h.small h.low h.aligned

pub are_codes : AreCodes
are_codes = record {
  read_back = decode-encode;
  apart = λ r t h k e. same_some r t (sym (decode-encode r h) ∙ ap decode e ∙ decode-encode t k);
  none_exactly = none_exactly;
  in_limits = in_limits;
  written_back = written_back;
  covered = covered;
}
