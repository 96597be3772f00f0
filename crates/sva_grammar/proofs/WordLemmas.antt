-- Lemmas on the words of a line.
use Rattle.std.proofs.Common.{◌≡◌, ◌<◌, ◌≤◌, ◌+◌, ◌*◌, ◌^◌, ◌∙◌, ap, sym, subst, arith, ℕ, List, [], ◌∷◌, Bool, true, false, ◌&&◌, cond, length, drop}
use Rattle.std.proofs.Common.{get_or, refl, Option, Some, None, Ok, Err, ltb}
use Rattle.std.specs.Prelude.{slice_get, unwrap_or}
use Rattle.std.specs.Option.{option_map}
use Rattle.std.specs.Char.{digit_value, is_ascii_digit}
use Rattle.std.specs.Str.{all_ascii_digits}
use Rattle.std.specs.Str.Parse.{digits_value, digits_value_after}
use Rattle.std.proofs.lemmas.Bool.{and_left, and_right, and_from, le-ltb, lt-ltb}
use Rattle.std.proofs.lemmas.List.{drop_more}
use Rattle.std.proofs.lemmas.Option.{unwrap_or-slice_get}
use Rattle.std.proofs.lemmas.Str.Parse.{IsNumeralModel, numerals_by_value, tells_all_ascii_digits}
use Rattle.std.proofs.Math.ListN.{drop_of_length-le}
use denote.Ref.{Bor}
use Rattle.sva_grammar.specs.Grammar.{begins_number, number}
use Rattle.sva_grammar.specs.declared.faults.Cause.TheVariants.{BadWord}

shown : (o : Option (Bor (List ℕ))) (d : Bor (List ℕ)) → (unwrap_or o d).now ≡ unwrap_or (option_map (λ x. x.now) o) d.now
shown None d = refl
shown (Some x) d = refl

-- what stands at a place of a list, or a default
pub word_from_get : (found : Option (Bor (List ℕ))) (other : Bor (List ℕ)) (words : List (List ℕ)) (place : ℕ)
    → option_map (λ x. x.now) found ≡ slice_get words place → other.now ≡ [] → (unwrap_or found other).now ≡ get_or words place []
word_from_get found other words place h e =
    shown found other ∙ ap (λ o. unwrap_or o other.now) h ∙ ap (unwrap_or (slice_get words place)) e ∙ unwrap_or-slice_get words place []

-- std's words for digits and what they write
pub own : IsNumeralModel (λ ds. all_ascii_digits ds ≡ true) (digits_value 10)
own = numerals_by_value _ tells_all_ascii_digits

-- a word that fails the test is no number
pub number-not : (word : List ℕ) → (begins_number word && all_ascii_digits word && ltb (digits_value 10 word) (2 ^ 64)) ≡ false → number word ≡ Err BadWord
unfolding number
number-not word h = ap (λ t. cond t (Ok (digits_value 10 word)) (Err BadWord)) h

-- a word that passes the test is its digits' number
pub number-is : (word : List ℕ) → (begins_number word && all_ascii_digits word && ltb (digits_value 10 word) (2 ^ 64)) ≡ true
    → number word ≡ Ok (digits_value 10 word)
unfolding number
number-is word h = ap (λ t. cond t (Ok (digits_value 10 word)) (Err BadWord)) h

-- a word that begins otherwise is no number
pub number-no_begin : (word : List ℕ) → begins_number word ≡ false → number word ≡ Err BadWord
number-no_begin word h = number-not word (and_left _ _ (and_left _ _ h))

pub some_byte : (word : List ℕ) → begins_number word ≡ true → 0 < length word
some_byte [] h = absurd (cc)
some_byte (digit ∷ digits) h = omega arith

-- digits behind a number write no less than it
value_after-ge : (value : ℕ) (digits : List ℕ) → value ≤ digits_value_after 10 value digits
value_after-ge value [] = omega arith
value_after-ge value (digit ∷ digits) = let more = value_after-ge (value * 10 + digit_value digit) digits in omega (arith, more)

-- all digits were read
pub number-read : (word : List ℕ) (value i : ℕ) → begins_number word ≡ true → length word ≤ i → value < 2 ^ 64
    → digits_value_after 10 value (drop i word) ≡ digits_value 10 word → all_ascii_digits (drop i word) ≡ all_ascii_digits word → number word ≡ Ok value
number-read word value i begins past small written digits =
    let none : drop i word ≡ [] = drop_of_length-le word past in
    let all : all_ascii_digits word ≡ true = sym digits ∙ ap all_ascii_digits none in
    let same : value ≡ digits_value 10 word = sym (ap (digits_value_after 10 value) none) ∙ written in
    number-is word (and_from _ _ (and_from _ _ begins all) (lt-ltb _ _ (subst (λ m. m < 2 ^ 64) same small))) ∙ ap Ok (sym same)

stopped : (word : List ℕ) (value byte : ℕ) (rest : List ℕ) (t : Bool) → is_ascii_digit byte ≡ t
    → digits_value_after 10 value (byte ∷ rest) ≡ digits_value 10 word → all_ascii_digits (byte ∷ rest) ≡ all_ascii_digits word
    → (t ≡ true → 2 ^ 64 ≤ value * 10 + digit_value byte) → number word ≡ Err BadWord
stopped word value byte rest false e written digits stops =
    number-not word (and_left _ _ (and_right (begins_number word) _ (sym digits ∙ ap (λ t. t && all_ascii_digits rest) e)))
stopped word value byte rest true e written digits stops =
    let more = value_after-ge (value * 10 + digit_value byte) rest in
    let large : 2 ^ 64 ≤ digits_value 10 word = omega (arith, more, written, stops refl) in
    number-not word (and_right _ _ (le-ltb _ _ large))

-- a byte is no digit, or the number with it doesn't fit
pub number-stopped : (word : List ℕ) (value i : ℕ) → i < length word
    → digits_value_after 10 value (drop i word) ≡ digits_value 10 word → all_ascii_digits (drop i word) ≡ all_ascii_digits word
    → (is_ascii_digit (get_or word i 0) ≡ true → 2 ^ 64 ≤ value * 10 + digit_value (get_or word i 0)) → number word ≡ Err BadWord
number-stopped word value i inside written digits stops =
    let more = drop_more word i 0 inside in
    stopped word value (get_or word i 0) (drop (i + 1) word) _ refl (sym (ap (digits_value_after 10 value) more) ∙ written)
    (sym (ap all_ascii_digits more) ∙ digits) stops
