-- Vectors: eight hexadecimal digits in lower case, as a word and as a number.
use Rattle.std.proofs.Common.{◌≡◌, ◌<◌, ◌≤◌, ◌+◌, ◌*◌, ◌/◌, ◌%◌, ◌^◌, ◌∙◌, ap, sym, subst, arith, ℕ, zero, suc, List, [], ◌∷◌, Bool, true, false}
use Rattle.std.proofs.Common.{cond, eqb, length, get_or, drop, refl, Ok, Err}
use Rattle.std.specs.Char.{digit_char, digit_value}
use Rattle.std.specs.List.{list_all}
use Rattle.std.specs.Str.Parse.{digits_value, digits_value_after}
use Rattle.std.proofs.lemmas.Bool.{and_from, and_parts, eqb-true}
use Rattle.std.proofs.lemmas.Bool.Decides.{nat_tests}
use Rattle.std.proofs.lemmas.Str.{digit_value-digit_char}
use Rattle.std.proofs.lemmas.List.{drop_more}
use Rattle.std.proofs.Math.ListN.{drop_of_length-le}
use Rattle.std.proofs.Math.Arith.{mod-mul}
use Rattle.std.proofs.Math.Nat.{div-eq_of_lt-le, mod-lt, mul-le-mul_right, one-le-pow, pow-zero, pow-suc}
use Rattle.sva_grammar.specs.Grammar.{is_vector, is_vector_digit, vector}
use Rattle.sva_grammar.specs.Laws.{hexadecimal, VectorsAreHexadecimal}
use Rattle.sva_grammar.specs.declared.faults.Cause.TheVariants.{BadWord}

-- ---- Digits

pub digit_char-ge : (d : ℕ) → 48 ≤ digit_char d
digit_char-ge d = grind (arith, nat_tests)

-- the character of a number below 16 is a digit of a vector
digit_char-passes : (d : ℕ) → d < 16 → is_vector_digit (digit_char d) ≡ true
digit_char-passes d small = grind (arith, nat_tests)

-- a digit is worth less than 16, and written by what it is worth
digit_small : (byte : ℕ) → is_vector_digit byte ≡ true → digit_value byte < 16
digit_small byte h = grind (arith, nat_tests)

digit_char-value : (byte : ℕ) → is_vector_digit byte ≡ true → digit_char (digit_value byte) ≡ byte
digit_char-value byte h = grind (arith, nat_tests)

-- ---- What a word is worth, and what writes a number

power : (places : ℕ) → 0 < 16 ^ places
power places = let some : 1 ≤ 16 ^ places = one-le-pow places 16 (omega arith) in omega arith

-- m is what stands before
value_bounds : (m : ℕ) (word : List ℕ) → list_all is_vector_digit word ≡ true
    → (m * 16 ^ length word ≤ digits_value_after 16 m word) × (digits_value_after 16 m word < (m + 1) * 16 ^ length word)
value_bounds m [] h = let one = pow-zero 16 in (omega (arith, ap (λ x. m * x) one), omega (arith, ap (λ x. (m + 1) * x) one))
value_bounds m (byte ∷ word) h =
    let parts = and_parts (is_vector_digit byte) _ h in
    let small = digit_small byte parts.0 in
    let rest = value_bounds (m * 16 + digit_value byte) word parts.1 in
    let more : 16 ^ suc (length word) ≡ 16 ^ length word * 16 = pow-suc 16 (length word) in
    let some = power (length word) in
    let above : (digit_value byte + 1) * 16 ^ length word ≤ 16 * 16 ^ length word = mul-le-mul_right (16 ^ length word) (omega arith) in
    (omega (arith, rest.0, ap (λ x. m * x) more), omega (arith, rest.1, ap (λ x. (m + 1) * x) more, above))

-- a word is its digits, whatever stands before
word_of_value : (m : ℕ) (word : List ℕ) → list_all is_vector_digit word ≡ true → hexadecimal (length word) (digits_value_after 16 m word) ≡ word
word_of_value m [] h = refl
word_of_value m (byte ∷ word) h =
    let parts = and_parts (is_vector_digit byte) _ h in
    let small = digit_small byte parts.0 in
    let rest = value_bounds (m * 16 + digit_value byte) word parts.1 in
    let front : digits_value_after 16 (m * 16 + digit_value byte) word / 16 ^ length word ≡ m * 16 + digit_value byte =
    div-eq_of_lt-le (16 ^ length word) rest.0 rest.1 in
    let low : (m * 16 + digit_value byte) % 16 ≡ digit_value byte = omega arith in
    let first = ap (λ n. digit_char (n % 16)) front ∙ ap digit_char low ∙ digit_char-value byte parts.0 in
    λ i. first i ∷ word_of_value (m * 16 + digit_value byte) word parts.1 i

-- digits that are written are worth what they were written for
value_of_word : (m places n : ℕ) → digits_value_after 16 m (hexadecimal places n) ≡ m * 16 ^ places + n % 16 ^ places
value_of_word m zero n =
    let one = pow-zero 16 in
    let none : n % 16 ^ zero ≡ 0 = ap (λ x. n % x) one ∙ omega arith in
    omega (arith, ap (λ x. m * x) one, none)
value_of_word m (suc places) n =
    let d = n / 16 ^ places % 16 in
    let small : d < 16 = mod-lt _ (omega arith) in
    let is = digit_value-digit_char d (omega arith) in
    let rest = value_of_word (m * 16 + d) places n in
    let more : 16 ^ suc places ≡ 16 * 16 ^ places = pow-suc 16 places ∙ omega arith in
    let whole : n % (16 * 16 ^ places) ≡ d * 16 ^ places + n % 16 ^ places = mod-mul n (omega arith) (power places) in
    ap (λ x. digits_value_after 16 (m * 16 + x) (hexadecimal places n)) is ∙ rest
    ∙ omega (arith, ap (λ x. m * x) more, ap (λ x. n % x) more, whole)

written : (places n : ℕ) → list_all is_vector_digit (hexadecimal places n) ≡ true
written zero n = refl
written (suc places) n = and_from _ _ (digit_char-passes (n / 16 ^ places % 16) (mod-lt _ (omega arith))) (written places n)

-- ---- Words

-- a word that fails the test is no vector
pub vector-not : (word : List ℕ) → is_vector word ≡ false → vector word ≡ Err BadWord
unfolding vector
vector-not word h = ap (λ t. cond t (Ok (digits_value 16 word)) (Err BadWord)) h

-- a word that passes the test is its digits' number
pub vector-is : (word : List ℕ) → is_vector word ≡ true → vector word ≡ Ok (digits_value 16 word)
unfolding vector
vector-is word h = ap (λ t. cond t (Ok (digits_value 16 word)) (Err BadWord)) h

-- the number fits 32 bits
vector_small : (word : List ℕ) → is_vector word ≡ true → digits_value 16 word < 2 ^ 32
vector_small word h =
    let parts = and_parts (eqb (length word) 8) _ h in
    let eight : length word ≡ 8 = eqb-true _ 8 parts.0 in
    let bounds = (value_bounds 0 word parts.1).1 in
    omega (arith, bounds, ap (λ n. 16 ^ n) eight)

tested : (word : List ℕ) (v : ℕ) (t : Bool) → is_vector word ≡ t → vector word ≡ Ok v → (t ≡ true) × (digits_value 16 word ≡ v)
tested word v true e h = let same = sym (vector-is word e) ∙ h in (refl, cc)
tested word v false e h = let same = sym (vector-not word e) ∙ h in absurd (cc)

vector_word : (word : List ℕ) (v : ℕ) → vector word ≡ Ok v → (v < 2 ^ 32) × (word ≡ hexadecimal 8 v)
vector_word word v h =
    let passed = tested word v _ refl h in
    let parts = and_parts (eqb (length word) 8) _ passed.0 in
    let eight : length word ≡ 8 = eqb-true _ 8 parts.0 in (
      subst (λ n. n < 2 ^ 32) passed.1 (vector_small word passed.0),
      sym (word_of_value 0 word parts.1) ∙ ap (λ n. hexadecimal n (digits_value 16 word)) eight ∙ ap (hexadecimal 8) passed.1,
    )

pub vector_read : (v : ℕ) → v < 2 ^ 32 → vector (hexadecimal 8 v) ≡ Ok v
vector_read v small =
    let value : digits_value 16 (hexadecimal 8 v) ≡ v = value_of_word 0 8 v ∙ omega arith in
    vector-is (hexadecimal 8 v) (and_from true _ refl (written 8 v)) ∙ ap Ok value

pub vectors_are_hexadecimal : VectorsAreHexadecimal
vectors_are_hexadecimal word v = (vector_word word v, λ h. ap vector h.1 ∙ vector_read v h.0)

-- ---- What the code reads

-- digits behind a number write no less than it
pub value_after-ge : (value : ℕ) (digits : List ℕ) → value ≤ digits_value_after 16 value digits
value_after-ge value [] = omega arith
value_after-ge value (digit ∷ digits) = let more = value_after-ge (value * 16 + digit_value digit) digits in omega (arith, more)

-- the digit that comes next, and the number with it, which fits 32 bits
pub next_digit : (word : List ℕ) (value i : ℕ) → is_vector word ≡ true → i < length word → list_all is_vector_digit (drop i word) ≡ true
    → digits_value_after 16 value (drop i word) ≡ digits_value 16 word
    → (is_vector_digit (get_or word i 0) ≡ true) × (list_all is_vector_digit (drop (i + 1) word) ≡ true)
    × (digits_value_after 16 (value * 16 + digit_value (get_or word i 0)) (drop (i + 1) word) ≡ digits_value 16 word)
    × (value * 16 + digit_value (get_or word i 0) < 2 ^ 32)
next_digit word value i h inside digits written =
    let more = drop_more word i 0 inside in
    let parts = and_parts (is_vector_digit (get_or word i 0)) (list_all is_vector_digit (drop (i + 1) word))
    (sym (ap (list_all is_vector_digit) more) ∙ digits) in
    let next = sym (ap (digits_value_after 16 value) more) ∙ written in
    let above = value_after-ge (value * 16 + digit_value (get_or word i 0)) (drop (i + 1) word) in
    (parts.0, parts.1, next, omega (arith, above, next, vector_small word h))

-- all digits were read
pub vector-read : (word : List ℕ) (value i : ℕ) → is_vector word ≡ true → length word ≤ i → digits_value_after 16 value (drop i word) ≡ digits_value 16 word
    → vector word ≡ Ok value
vector-read word value i h past written =
    vector-is word h ∙ ap Ok (sym written ∙ ap (digits_value_after 16 value) (drop_of_length-le word past))

-- before the first
pub vector_digits : (word : List ℕ) → is_vector word ≡ true → list_all is_vector_digit word ≡ true
vector_digits word h = (and_parts (eqb (length word) 8) _ h).1
