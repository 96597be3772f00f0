-- A line of a scenario, as a script reads it: its words are its own, and each stands as it is.
use Rattle.std.proofs.Common.{◌≡◌, ◌∙◌, ap, append-nil, cond, refl, subst, sym, arith, ℕ, ◌+◌, ◌^◌, ◌==◌, ◌&&◌, ◌||◌, not, Bool, true, false, List, [], ◌∷◌}
use Rattle.std.proofs.Common.{codes, length, Some, None}
use Rattle.std.specs.Prelude.{◌++◌, flat_map, nat_lt, is_ok, Result, Ok, Err}
use Rattle.std.specs.List.{join_with_byte, list_all, list_any, position, prefix_len}
use Rattle.std.specs.Str.{all_ascii_digits, bytes_eq}
use Rattle.std.specs.Str.Parse.{digits_value}
use Rattle.std.proofs.lemmas.Bool.{and_parts}
use Rattle.std.proofs.lemmas.Bool.Decides.{nat_tests}
use Rattle.std.proofs.lemmas.Slice.Eq.{bytes_eq-Decides}
use Rattle.sva_grammar.specs.declared.faults.Cause.{Cause}
use Rattle.sva_grammar.specs.declared.faults.Cause.TheVariants.{BadWord}
use Rattle.sva_grammar.specs.Grammar.{◌>>=◌, access, begins_number, flags, group, is_last, is_vector, is_vector_digit, number, vector, verdict}
use Rattle.sva_script.specs.Reserved.{is_kind, kind_words}
use Rattle.sva_script.specs.declared.places.Field.{Field}
use Rattle.sva_script.specs.declared.places.Field.TheVariants.{Itags, MaybeCount, Group, Access, Flags, Last, Verdict}
use Rattle.sva_script.specs.Lines.{is_arrow, said}
use Rattle.sva_script.specs.Names.{Known}
use Rattle.sva_script.specs.Resolve.{is_plain, other_word, plain_rest}
use Rattle.sva_script.specs.Pieces.{joined, spaced}
use Rattle.sva_script_laws.proofs.StepWords.{Sound, Suits}

-- ---- Words of a scenario

-- it begins with a digit
abbrev pub BeginsDigit : List ℕ → Type 0
BeginsDigit [] = ⊥
BeginsDigit (byte ∷ word) = (nat_lt 47 byte && nat_lt byte 58) ≡ true

begins_digit : (word : List ℕ) → begins_number word ≡ true → BeginsDigit word
begins_digit [] is = absurd (cc is)
begins_digit (digit ∷ digits) is = grind (arith, nat_tests)

first_test : (test : Bool) (value : ℕ) → is_ok (cond test (Ok value) (Err BadWord)) ≡ true → test ≡ true
first_test true value is = refl
first_test false value is = absurd (cc is)

pub number_begins : (word : List ℕ) → is_ok (number word) ≡ true → BeginsDigit word
unfolding number
number_begins word is =
    let tests = first_test (begins_number word && all_ascii_digits word && nat_lt (digits_value 10 word) (2 ^ 64)) (digits_value 10 word) is in
    begins_digit word ((and_parts _ _ ((and_parts _ _ tests).0)).0)

pub digit_sound : (word : List ℕ) → BeginsDigit word → Sound word
digit_sound [] is = is
digit_sound (byte ∷ word) is = (grind (arith, nat_tests), grind (arith, nat_tests))

by_word : {A : Type 0} (word name : List ℕ) (found : A) (other : Result A Cause) → Sound name → (is_ok other ≡ true → Sound word)
    → is_ok (cond (bytes_eq word name) (Ok found) other) ≡ true → Sound word
by_word {A} word name found other sound more is = by_test (bytes_eq word name) refl is
  where
    by_test : (test : Bool) → bytes_eq word name ≡ test → is_ok (cond test (Ok found) other) ≡ true → Sound word
    by_test true same is = subst Sound (sym ((bytes_eq-Decides word name).0 same)) sound
    by_test false same is = more is

by_last : {A : Type 0} (word name : List ℕ) (found : A) (cause : Cause) → Sound name → is_ok (cond (bytes_eq word name) (Ok found) (Err cause)) ≡ true
    → Sound word
by_last word name found cause sound is = by_word word name found (Err cause) sound (λ none. absurd (cc none)) is

access_sound : (word : List ℕ) → is_ok (access word) ≡ true → Sound word
unfolding access
access_sound word is = by_word word (codes "w") _ _ (refl, refl) (λ other. by_last word (codes "r") _ _ (refl, refl) other) is

flags_sound : (word : List ℕ) → is_ok (flags word) ≡ true → Sound word
unfolding flags
flags_sound word is =
    by_word word (codes "r") _ _ (refl, refl)
    (λ other. by_word word (codes "w") _ _ (refl, refl) (λ last. by_last word (codes "rw") _ _ (refl, refl) last) other) is

last_sound : (word : List ℕ) → is_ok (is_last word) ≡ true → Sound word
unfolding is_last
last_sound word is = by_word word (codes "last") _ _ (refl, refl) (λ other. by_last word (codes "more") _ _ (refl, refl) other) is

verdict_sound : (word : List ℕ) → is_ok (verdict word) ≡ true → Sound word
unfolding verdict
verdict_sound word is =
    by_word word (codes "success") _ _ (refl, refl)
    (λ other. by_word word (codes "invalid") _ _ (refl, refl) (λ last. by_last word (codes "failure") _ _ (refl, refl) last) other) is

index_read : (read : Result ℕ Cause) → is_ok (read >>= λ index. Ok (Some index)) ≡ true → is_ok read ≡ true
index_read (Ok index) is = refl
index_read (Err cause) is = absurd (cc is)

group_sound : (word : List ℕ) → is_ok (group word) ≡ true → Sound word
unfolding group
group_sound word is =
    by_word word (codes "new") _ _ (refl, refl) (λ other. digit_sound word (number_begins word (index_read (number word) other))) is

vector_sound : (word : List ℕ) → is_ok (vector word) ≡ true → Sound word
unfolding vector
vector_sound word is =
    let parts = and_parts (length word == 8) (list_all is_vector_digit word) (first_test (is_vector word) (digits_value 16 word) is) in
    by_first word parts.0 parts.1
  where
    by_first : (word : List ℕ) → (length word == 8) ≡ true → list_all is_vector_digit word ≡ true → Sound word
    by_first [] eight digits = absurd (cc eight)
    by_first (byte ∷ word) eight digits =
        let first : is_vector_digit byte ≡ true = (and_parts (is_vector_digit byte) (list_all is_vector_digit word) digits).0 in
        (grind (arith, nat_tests), grind (arith, nat_tests))

-- a word that a scenario has at a place
plain_sound : (place : Field) (word : List ℕ) → is_plain place word ≡ true → Sound word
plain_sound Access word is = access_sound word is
plain_sound Flags word is = flags_sound word is
plain_sound Last word is = last_sound word is
plain_sound Verdict word is = verdict_sound word is
plain_sound Group word is = group_sound word is
plain_sound Itags word is = vector_sound word is
plain_sound _ word is = digit_sound word (number_begins word is)

abbrev pub AllSound : List (List ℕ) → Type 0
AllSound [] = Unit {0}
AllSound (word ∷ words) = Sound word × AllSound words

pub suits_sound : (places : List Field) (words : List (List ℕ)) → Suits places words → AllSound words
suits_sound [] [] suits = tt
suits_sound [] (word ∷ words) suits = absurd suits
suits_sound (place ∷ places) [] suits = tt
suits_sound (place ∷ places) (word ∷ words) suits = (plain_sound place word suits.0, suits_sound places words suits.1)

-- ---- The words of its line

-- they are said, all of them
pub all_said : (words : List (List ℕ)) → AllSound words → said words ≡ words
unfolding said
all_said [] sound = refl
all_said ([] ∷ words) sound = absurd sound.0
all_said ((byte ∷ word) ∷ words) sound =
    ap (λ t. cond t [] ((byte ∷ word) ∷ said words)) sound.0.0 ∙ ap (λ more. (byte ∷ word) ∷ more) (all_said words sound.1)

-- none is an arrow
no_arrow : (word : List ℕ) → Sound word → is_arrow word ≡ false
no_arrow [] sound = absurd sound
no_arrow (byte ∷ word) sound = ap (λ t. t && bytes_eq word (codes ">")) sound.1

all_passed : (words : List (List ℕ)) → AllSound words → prefix_len (λ word. not (is_arrow word)) words ≡ length words
all_passed [] sound = refl
all_passed (word ∷ words) sound =
    let more = all_passed words sound.1 in
    ap (λ t. cond (not t) (1 + prefix_len (λ w. not (is_arrow w)) words) 0) (no_arrow word sound.0) ∙ omega (arith, more)

pub no_arrows : (words : List (List ℕ)) → AllSound words → position is_arrow words ≡ None
no_arrows words sound = by_test (nat_lt (prefix_len (λ word. not (is_arrow word)) words) (length words)) refl
  where
    by_test : (test : Bool) → nat_lt (prefix_len (λ word. not (is_arrow word)) words) (length words) ≡ test
        → cond test (Some (prefix_len (λ word. not (is_arrow word)) words)) None ≡ None
    by_test true within = let all = all_passed words sound in absurd (grind (arith, nat_tests, within, all))
    by_test false past = refl

-- each stands at its place as it is
pub all_plain : (at : ℕ) (known : Known) (places : List Field) (words : List (List ℕ)) → Suits places words
    → plain_rest at known places words ≡ Ok (flat_map (λ word. 32 ∷ word) words)
unfolding plain_rest
all_plain at known [] [] suits = refl
all_plain at known [] (word ∷ words) suits = absurd suits
all_plain at known (MaybeCount ∷ []) [] suits = refl
all_plain at known (place ∷ places) [] suits = absurd suits
all_plain at known (place ∷ places) (word ∷ words) suits =
    ap (λ t. joined (spaced (cond t (Ok word) (other_word at known place word))) (plain_rest (at + 1) known places words)) suits.0
    ∙ ap (λ rest. joined (Ok (32 ∷ word)) rest) (all_plain (at + 1) known places words suits.1)

-- joined they are the line
pub joined_line : (word : List ℕ) (words : List (List ℕ)) → word ++ flat_map (λ next. 32 ∷ next) words ≡ join_with_byte 32 (word ∷ words)
joined_line word [] = append-nil word
joined_line word (next ∷ words) = ap (λ more. word ++ 32 ∷ more) (joined_line next words)

-- ---- A number is no word for a message in flight

abbrev pub begins_high : List ℕ → Bool
begins_high [] = false
begins_high (byte ∷ word) = nat_lt 57 byte

differs : (name word : List ℕ) → begins_high name ≡ true → BeginsDigit word → bytes_eq name word ≡ false
differs [] word high digit = absurd (cc high)
differs name [] high digit = absurd digit
differs (byte ∷ name) (digit ∷ word) high is =
    let other : (byte == digit) ≡ false = grind (arith, nat_tests) in
    ap (λ t. t && bytes_eq name word) other

among : (names : List (List ℕ)) (word : List ℕ) → list_all begins_high names ≡ true → BeginsDigit word
    → list_any (λ name. bytes_eq name word) names ≡ false
among [] word high digit = refl
among (name ∷ names) word high digit =
    let parts = and_parts (begins_high name) (list_all begins_high names) high in
    ap (λ t. t || list_any (λ other. bytes_eq other word) names) (differs name word parts.0 digit) ∙ among names word parts.1 digit

pub no_kind : (word : List ℕ) → BeginsDigit word → is_kind word ≡ false
unfolding kind_words
no_kind word digit = among kind_words word refl digit

pub no_age : (word age : List ℕ) → begins_high age ≡ true → BeginsDigit word → bytes_eq word age ≡ false
no_age word age high digit = by_test (bytes_eq word age) refl
  where
    by_test : (test : Bool) → bytes_eq word age ≡ test → bytes_eq word age ≡ false
    by_test false is = is
    by_test true is =
        let same = (bytes_eq-Decides word age).0 is in
        absurd (cc (differs age word high digit, ap (λ w. bytes_eq w word) (sym same), (bytes_eq-Decides word word).1 refl))
