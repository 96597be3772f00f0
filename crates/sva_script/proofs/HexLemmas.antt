-- Hexadecimal digits, at most sixteen of them, as a number.
use Rattle.std.proofs.Common.{◌≡◌, ◌<◌, ◌≤◌, ◌+◌, ◌*◌, ◌^◌, ◌∙◌, ap, sym, arith, ℕ, suc, List, [], ◌∷◌, true, false, length, get_or, drop, cond, Some, None}
use Rattle.std.specs.Prelude.{nat_le, nat_lt}
use Rattle.std.specs.Char.{digit_value, is_ascii_hexdigit}
use Rattle.std.specs.List.{list_all}
use Rattle.std.specs.Str.Parse.{digits_value, digits_value_after}
use Rattle.std.proofs.lemmas.Bool.{and_parts}
use Rattle.std.proofs.lemmas.Bool.Decides.{nat_tests}
use Rattle.std.proofs.lemmas.List.{drop_more}
use Rattle.std.proofs.Math.ListN.{drop_of_length-le}
use Rattle.sva_grammar.proofs.VectorLemmas.{value_after-ge}
use Rattle.sva_script.specs.Numbers.{are_digits, page_by}
use Rattle.std.proofs.Math.Nat.{mul-le-mul_right, pow-zero, pow-suc, pow-le-pow_right}

digit_small : (byte : ℕ) → is_ascii_hexdigit byte ≡ true → digit_value byte < 16
digit_small byte h = grind (arith, nat_tests)

-- digits behind m write less than m + 1 and as many zeros
value_below : (m : ℕ) (word : List ℕ) → list_all is_ascii_hexdigit word ≡ true → digits_value_after 16 m word < (m + 1) * 16 ^ length word
value_below m [] h = let one = pow-zero 16 in omega (arith, ap (λ x. (m + 1) * x) one)
value_below m (byte ∷ word) h =
    let parts = and_parts (is_ascii_hexdigit byte) _ h in
    let small = digit_small byte parts.0 in
    let rest = value_below (m * 16 + digit_value byte) word parts.1 in
    let more : 16 ^ suc (length word) ≡ 16 ^ length word * 16 = pow-suc 16 (length word) in
    let above : (digit_value byte + 1) * 16 ^ length word ≤ 16 * 16 ^ length word = mul-le-mul_right (16 ^ length word) (omega arith) in
    omega (arith, rest, ap (λ x. (m + 1) * x) more, above)

-- sixteen digits fit 64 bits
pub value_fits : (word : List ℕ) → list_all is_ascii_hexdigit word ≡ true → length word ≤ 16 → digits_value 16 word < 2 ^ 64
value_fits word h few =
    let below = value_below 0 word h in
    let most : 16 ^ length word ≤ 16 ^ 16 = pow-le-pow_right (omega arith) few in
    omega (arith, below, most)

-- the digit that comes next, and the number with it, which fits
pub next_digit : (word : List ℕ) (value i : ℕ) → i < length word → digits_value 16 word < 2 ^ 64
    → list_all is_ascii_hexdigit (drop i word) ≡ true → digits_value_after 16 value (drop i word) ≡ digits_value 16 word
    → (is_ascii_hexdigit (get_or word i 0) ≡ true) × (list_all is_ascii_hexdigit (drop (i + 1) word) ≡ true)
    × (digits_value_after 16 (value * 16 + digit_value (get_or word i 0)) (drop (i + 1) word) ≡ digits_value 16 word)
    × (value * 16 + digit_value (get_or word i 0) < 2 ^ 64)
next_digit word value i inside fits digits written =
    let more = drop_more word i 0 inside in
    let parts = and_parts (is_ascii_hexdigit (get_or word i 0)) _ (sym (ap (list_all is_ascii_hexdigit) more) ∙ digits) in
    let rest = sym (ap (digits_value_after 16 value) more) ∙ written in
    let up = value_after-ge (value * 16 + digit_value (get_or word i 0)) (drop (i + 1) word) in
    (parts.0, parts.1, rest, omega (arith, up, rest, fits))

-- all digits were read
read_whole : (word : List ℕ) (value i : ℕ) → length word ≤ i → digits_value_after 16 value (drop i word) ≡ digits_value 16 word → value ≡ digits_value 16 word
read_whole word value i past written = sym (ap (digits_value_after 16 value) (drop_of_length-le word past)) ∙ written

-- what passes the test is such digits, few enough
pub digits_fit : (digits : List ℕ) → are_digits digits ≡ true → digits_value 16 digits < 2 ^ 64
digits_fit digits h =
    let parts = and_parts _ (list_all is_ascii_hexdigit digits) h in
    let sizes = and_parts (nat_lt 0 (length digits)) (nat_le (length digits) 16) parts.0 in
    value_fits digits parts.1 (grind (arith, nat_tests, sizes.1))

pub page-not : (digits : List ℕ) → are_digits digits ≡ false → page_by digits ≡ None
page-not digits h = ap (λ t. cond t (Some (digits_value 16 digits)) None) h

pub page-read : (digits : List ℕ) (value i : ℕ) → are_digits digits ≡ true → length digits ≤ i
    → digits_value_after 16 value (drop i digits) ≡ digits_value 16 digits → page_by digits ≡ Some value
page-read digits value i h past written =
    ap (λ t. cond t (Some (digits_value 16 digits)) None) h ∙ ap Some (sym (read_whole digits value i past written))
