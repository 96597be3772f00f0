-- The laws of the grammar.
use Rattle.std.proofs.Common.{◌≡◌, ◌<◌, ◌≤◌, ◌+◌, ◌/◌, ◌%◌, ◌^◌, ◌∙◌, ap, sym, subst, arith, ℕ, zero, suc, List, [], ◌∷◌, ◌++◌, append_assoc, Bool, true}
use Rattle.std.proofs.Common.{false, not, ◌&&◌, ◌||◌, cond, eqb, ltb, eq-eqb, length, get_or, refl, Option, Some, None, IfSome, Ok, map}
use Rattle.std.specs.Prelude.{codes, decimal}
use Rattle.std.specs.List.{AllByRecursion, enumerate_from, onto_first, join_with_byte}
use Rattle.std.specs.Char.{digit_char, is_ascii_digit}
use Rattle.std.specs.Str.{all_ascii_digits, bytes_eq}
use Rattle.std.specs.Str.Parse.{digits_value}
use Rattle.std.proofs.lemmas.Bool.{and_from, and_parts, lt-ltb, ltb-true, ltb-false}
use Rattle.std.proofs.lemmas.Bool.Decides.{nat_tests}
use Rattle.std.proofs.lemmas.Fmt.{decimal-digits_value, decimal_digit, decimal_nonempty, digits_decimal, digits_value-decimal, first_decimal}
use Rattle.std.proofs.lemmas.Slice.Eq.{bytes_eq-Decides}
use Rattle.sva_grammar.specs.Grammar.{access, begins_number, config_counts, config_of, fault, flags, group, is_last, is_skipped, is_too_large, lines_of}
use Rattle.sva_grammar.specs.Grammar.{number, said_lines, scenario_of, script_of, steps_of, step_of, verdict, words_of}
use Rattle.sva_grammar.specs.Grammar.{host_step, endpoint_step, one_number, space_step, drop_step, map_step, unmap_step, unmapr_step, look_step}
use Rattle.sva_grammar.specs.Grammar.{bearer_step, bind_step, unbind_step, advance_step, pump_step, serve_step, reset_step, take_step, answer_step}
use Rattle.sva_grammar.specs.Grammar.{ask_step, use_step, end_step, evict_step, fault_step, finish_step, quit_step, deliver_step}
use Rattle.sva_grammar.specs.Laws.{access_word, config_words, flags_word, group_word, HasConfigLine, HasLine, hexadecimal, last_word}
use Rattle.sva_grammar.specs.Laws.{NumbersAreDecimal, script_text, ScriptsAreRead, step_words, text_of, verdict_word}
use Rattle.sva_grammar.proofs.VectorLemmas.{digit_char-ge, vector_read}
use Rattle.sva_grammar.proofs.WordLemmas.{number-is, number-not, own, some_byte}
use Rattle.sva_grammar.specs.declared.faults.Cause.TheVariants.{TooLarge}
use Rattle.sva_step.specs.declared.limits.Config.{Config}
use Rattle.sva_step.specs.declared.steps.Step.{Step}
use Rattle.sva_step.specs.declared.steps.Step.TheVariants.{Space, DropSpace, Map, Unmap, UnmapRange, Bind, Unbind, Advance, Pump, Serve, Reset, Take}
use Rattle.sva_step.specs.declared.steps.Step.TheVariants.{Reply, Ask, BeginUse, EndUse, Evict, Fault, Finish, Quit, Deliver, Look, Bearer}
use Rattle.sva_step.specs.declared.steps.Verdict.{Verdict}
use Rattle.sva_step.specs.declared.steps.Verdict.TheVariants.{Success, Invalid, Failure}

-- ---- Numbers

first_not_zero : (word : List ℕ) → begins_number word ≡ true → get_or word 0 0 ≡ 48 → length word ≡ 1
first_not_zero [] h e = absurd (cc)
first_not_zero (digit ∷ digits) h e = grind (arith, nat_tests)

begins_test : (digit len : ℕ) (t : Bool) → ltb 48 digit ≡ t → 48 ≤ digit → digit < 58 → (digit ≡ 48 → len ≡ 0)
    → (t && ltb digit 58 || eqb digit 48 && eqb len 0) ≡ true
begins_test digit len true e low high one = ap (λ t. t || (eqb digit 48 && eqb len 0)) (lt-ltb digit 58 high)
begins_test digit len false e low high one =
    let zero_digit : digit ≡ 48 = omega (arith, ltb-false 48 digit e) in
    and_from _ _ (eq-eqb digit 48 zero_digit) (eq-eqb len 0 (one zero_digit))

begins_from : (word : List ℕ) → 0 < length word → all_ascii_digits word ≡ true → (get_or word 0 0 ≡ 48 → length word ≡ 1) → begins_number word ≡ true
begins_from [] some h e = absurd (omega arith)
begins_from (digit ∷ digits) some h e =
    let low : 48 ≤ digit = grind (arith, nat_tests) in
    let high : digit < 58 = grind (arith, nat_tests) in
    begins_test digit (length digits) _ refl low high (λ z. let one = e z in omega arith)

tested : (word : List ℕ) (n : ℕ) (t : Bool) → (begins_number word && all_ascii_digits word && ltb (digits_value 10 word) (2 ^ 64)) ≡ t → number word ≡ Ok n
    → (t ≡ true) × (digits_value 10 word ≡ n)
tested word n true e h = let same = sym (number-is word e) ∙ h in (refl, cc)
tested word n false e h = let same = sym (number-not word e) ∙ h in absurd (cc)

decimal_word : (word : List ℕ) (n : ℕ) → number word ≡ Ok n → (n < 2 ^ 64) × (word ≡ decimal n)
decimal_word word n h =
    let passed = tested word n _ refl h in
    let parts = and_parts _ _ passed.0 in
    let front = and_parts _ _ parts.0 in
    let small : digits_value 10 word < 2 ^ 64 = ltb-true _ _ parts.1 in (
      subst (λ m. m < 2 ^ 64) passed.1 small,
      sym (decimal-digits_value own word front.1 (some_byte word front.0) (first_not_zero word front.0) small) ∙ ap decimal passed.1,
    )

one_zero : (n : ℕ) → n < 2 ^ 64 → get_or (decimal n) 0 0 ≡ 48 → length (decimal n) ≡ 1
one_zero zero small h = ap length (decimal_digit 0 (omega arith))
one_zero (suc n) small h = let first = first_decimal (suc n) (omega arith) small in absurd (omega arith)

pub number_decimal : (n : ℕ) → n < 2 ^ 64 → number (decimal n) ≡ Ok n
number_decimal n small =
    let digits = digits_decimal own n small in
    let value = digits_value-decimal own n small in
    let fits : digits_value 10 (decimal n) < 2 ^ 64 = subst (λ m. m < 2 ^ 64) (sym value) small in
    let begins = begins_from (decimal n) (decimal_nonempty n small) digits (one_zero n small) in
    number-is (decimal n) (and_from _ _ (and_from _ _ begins digits) (lt-ltb _ _ fits)) ∙ ap Ok value

pub numbers_are_decimal : NumbersAreDecimal
numbers_are_decimal word n = (decimal_word word n, λ h. ap number h.1 ∙ number_decimal n h.0)

-- ---- What is written is read

-- the byte isn't in the list
lacks : ℕ → List ℕ → Bool
lacks byte [] = true
lacks byte (x ∷ xs) = not (eqb x byte) && lacks byte xs

other_byte : (t : Bool) → not t ≡ true → t ≡ false
other_byte true h = absurd (cc)
other_byte false h = refl

lacks-append : (byte : ℕ) (xs ys : List ℕ) → lacks byte xs ≡ true → lacks byte ys ≡ true → lacks byte (xs ++ ys) ≡ true
unfolding lacks
lacks-append byte [] ys h k = k
lacks-append byte (x ∷ xs) ys h k = let parts = and_parts _ _ h in and_from _ _ parts.0 (lacks-append byte xs ys parts.1 k)

-- digits are no separator
lacks-digits : (byte : ℕ) (digits : List ℕ) → byte < 48 → all_ascii_digits digits ≡ true → lacks byte digits ≡ true
unfolding lacks
lacks-digits byte [] low h = refl
lacks-digits byte (digit ∷ digits) low h =
    let parts = and_parts (is_ascii_digit digit) (all_ascii_digits digits) h in
    let high : 48 ≤ digit = grind (arith, nat_tests) in
    let other : eqb digit byte ≡ false = grind (arith, nat_tests) in
    and_from _ _ (ap not other) (lacks-digits byte digits low parts.1)

lacks-decimal : (byte n : ℕ) → byte < 48 → n < 2 ^ 64 → lacks byte (decimal n) ≡ true
lacks-decimal byte n low small = lacks-digits byte (decimal n) low (digits_decimal own n small)

-- a word ends at the first space, a line at the first LF
words_of-first : (word rest : List ℕ) → lacks 32 word ≡ true → words_of (word ++ 32 ∷ rest) ≡ word ∷ words_of rest
unfolding lacks
words_of-first [] rest h = refl
words_of-first (x ∷ word) rest h =
    let parts = and_parts _ _ h in
    ap (λ t. cond t ([] ∷ words_of (word ++ 32 ∷ rest)) (onto_first x (words_of (word ++ 32 ∷ rest)))) (other_byte _ parts.0)
    ∙ ap (onto_first x) (words_of-first word rest parts.1)

words_of-last : (word : List ℕ) → lacks 32 word ≡ true → words_of word ≡ word ∷ []
unfolding lacks
words_of-last [] h = refl
words_of-last (x ∷ word) h =
    let parts = and_parts _ _ h in
    ap (λ t. cond t ([] ∷ words_of word) (onto_first x (words_of word))) (other_byte _ parts.0) ∙ ap (onto_first x) (words_of-last word parts.1)

lines_of-first : (line rest : List ℕ) → lacks 10 line ≡ true → lines_of (line ++ 10 ∷ rest) ≡ line ∷ lines_of rest
unfolding lacks
lines_of-first [] rest h = refl
lines_of-first (x ∷ line) rest h =
    let parts = and_parts _ _ h in
    ap (λ t. cond t ([] ∷ lines_of (line ++ 10 ∷ rest)) (onto_first x (lines_of (line ++ 10 ∷ rest)))) (other_byte _ parts.0)
    ∙ ap (onto_first x) (lines_of-first line rest parts.1)

-- a word has no space and no LF in it
IsWord : List ℕ → Type 0
IsWord word = (lacks 32 word ≡ true) × (lacks 10 word ≡ true)

AreWords : List (List ℕ) → Type 0
AreWords words = AllByRecursion IsWord words

words_of-joined : (word : List ℕ) (words : List (List ℕ)) → AreWords (word ∷ words) → words_of (join_with_byte 32 (word ∷ words)) ≡ word ∷ words
unfolding AreWords IsWord
words_of-joined word [] h = words_of-last word h.0.0
words_of-joined word (next ∷ words) h = words_of-first word (join_with_byte 32 (next ∷ words)) h.0.0 ∙ ap (λ ws. word ∷ ws) (words_of-joined next words h.1)

lacks-joined : (words : List (List ℕ)) → AreWords words → lacks 10 (join_with_byte 32 words) ≡ true
unfolding AreWords IsWord lacks
lacks-joined [] h = refl
lacks-joined (word ∷ []) h = h.0.1
lacks-joined (word ∷ next ∷ words) h = lacks-append 10 word (32 ∷ join_with_byte 32 (next ∷ words)) h.0.1 (lacks-joined (next ∷ words) h.1)

-- a line of such words, which is not skipped
record IsLine (words : List (List ℕ)) : Type 0 where
  read : words_of (join_with_byte 32 words) ≡ words
  whole : lacks 10 (join_with_byte 32 words) ≡ true
  said : is_skipped (join_with_byte 32 words) ≡ false

line_from : (word : List ℕ) (words : List (List ℕ)) → AreWords (word ∷ words) → is_skipped (join_with_byte 32 (word ∷ words)) ≡ false → IsLine (word ∷ words)
line_from word words h said = record { read = words_of-joined word words h; whole = lacks-joined (word ∷ words) h; said = said }

lines_of-text : (lines : List (List (List ℕ))) → AllByRecursion IsLine lines → lines_of (text_of lines) ≡ map (join_with_byte 32) lines
lines_of-text [] h = refl
lines_of-text (words ∷ lines) h =
    ap lines_of (append_assoc (join_with_byte 32 words) (10 ∷ []) (text_of lines))
    ∙ lines_of-first (join_with_byte 32 words) (text_of lines) h.0.whole
    ∙ ap (λ ls. join_with_byte 32 words ∷ ls) (lines_of-text lines h.1)

said_lines-all : (first : ℕ) (lines : List (List (List ℕ))) → AllByRecursion IsLine lines
    → said_lines first (map (join_with_byte 32) lines) ≡ enumerate_from first (map (join_with_byte 32) lines)
said_lines-all first [] h = refl
said_lines-all first (words ∷ lines) h =
    let line = join_with_byte 32 words in
    let others = said_lines (first + 1) (map (join_with_byte 32) lines) in
    ap (λ t. cond (not t) ((first, line) ∷ others) others) h.0.said ∙ ap (λ ls. (first, line) ∷ ls) (said_lines-all (first + 1) lines h.1)

-- ---- The forms

word_of_number : (n : ℕ) → n < 2 ^ 64 → IsWord (decimal n)
unfolding IsWord
word_of_number n small = (lacks-decimal 32 n (omega arith) small, lacks-decimal 10 n (omega arith) small)

config_line : (config : Config) → HasConfigLine config → IsLine (config_words config)
unfolding AreWords IsWord lacks
config_line config h =
    line_from _ _ ((refl, refl), (word_of_number config.endpoints h.0, (word_of_number config.frames h.1, (word_of_number config.workers h.2, tt)))) refl

config_read : (config : Config) → HasConfigLine config → config_of (config_words config) ≡ Ok config
unfolding config_of config_counts
config_read config h =
    rw (number_decimal config.endpoints h.0, number_decimal config.frames h.1, number_decimal config.workers h.2)
    (λ i. Ok (record { endpoints = config.endpoints; frames = config.frames; workers = config.workers; first = sym h.3 i }))

-- the words that are no numbers

word_of_access : (write : Bool) → IsWord (access_word write)
unfolding IsWord lacks
word_of_access true = (refl, refl)
word_of_access false = (refl, refl)

access_read : (write : Bool) → access (access_word write) ≡ Ok write
unfolding access
access_read true = refl
access_read false = refl

word_of_flags : (read write : Bool) → IsWord (flags_word read write)
unfolding IsWord lacks
word_of_flags true true = (refl, refl)
word_of_flags true false = (refl, refl)
word_of_flags false true = (refl, refl)
word_of_flags false false = (refl, refl)

flags_read : (read write : Bool) → (read || write) ≡ true → flags (flags_word read write) ≡ Ok (read, write)
unfolding flags
flags_read true true h = refl
flags_read true false h = refl
flags_read false true h = refl
flags_read false false h = absurd (cc)

word_of_group : (index : Option ℕ) → IfSome index (λ i. i < 2 ^ 64) → IsWord (group_word index)
unfolding IsWord lacks
word_of_group None h = (refl, refl)
word_of_group (Some index) h = word_of_number index h

-- digits aren't the word `new`
not_new : (n : ℕ) (t : Bool) → n < 2 ^ 64 → bytes_eq (decimal n) (codes "new") ≡ t → t ≡ false
not_new n true small e =
    let same = (bytes_eq-Decides (decimal n) (codes "new")).0 e in
    let digits : all_ascii_digits (codes "new") ≡ true = subst (λ word. all_ascii_digits word ≡ true) same (digits_decimal own n small) in
    absurd (cc)
not_new n false small e = refl

group_read : (index : Option ℕ) → IfSome index (λ i. i < 2 ^ 64) → group (group_word index) ≡ Ok index
unfolding group
group_read None h = refl
group_read (Some index) h = rw (not_new index _ h refl, number_decimal index h) refl

word_of_last : (last : Bool) → IsWord (last_word last)
unfolding IsWord lacks
word_of_last true = (refl, refl)
word_of_last false = (refl, refl)

last_read : (last : Bool) → is_last (last_word last) ≡ Ok last
unfolding is_last
last_read true = refl
last_read false = refl

word_of_verdict : (v : Verdict) → IsWord (verdict_word v)
unfolding IsWord lacks
word_of_verdict Success = (refl, refl)
word_of_verdict Invalid = (refl, refl)
word_of_verdict Failure = (refl, refl)

verdict_read : (v : Verdict) → verdict (verdict_word v) ≡ Ok v
unfolding verdict
verdict_read Success = refl
verdict_read Invalid = refl
verdict_read Failure = refl

lacks-hexadecimal : (byte places n : ℕ) → byte < 48 → lacks byte (hexadecimal places n) ≡ true
unfolding lacks
lacks-hexadecimal byte zero n low = refl
lacks-hexadecimal byte (suc places) n low =
    let high = digit_char-ge (n / 16 ^ places % 16) in
    let other : eqb (digit_char (n / 16 ^ places % 16)) byte ≡ false = grind (arith, nat_tests) in
    and_from _ _ (ap not other) (lacks-hexadecimal byte places n low)

word_of_vector : (v : ℕ) → IsWord (hexadecimal 8 v)
unfolding IsWord
word_of_vector v = (lacks-hexadecimal 32 8 v (omega arith), lacks-hexadecimal 10 8 v (omega arith))

step_line : (step : Step) → HasLine step → IsLine (step_words step)
unfolding AreWords IsWord lacks
step_line Space h = line_from _ _ ((refl, refl), tt) refl
step_line (DropSpace space) h = line_from _ _ ((refl, refl), (word_of_number space h, tt)) refl
step_line (Map space page write) h = line_from _ _ ((refl, refl), (word_of_number space h.0, (word_of_number page h.1, (word_of_access write, tt)))) refl
step_line (Unmap space page count) h =
    line_from _ _ ((refl, refl), (word_of_number space h.0, (word_of_number page h.1, (word_of_number count h.2, tt)))) refl
step_line (UnmapRange space page order) h =
    line_from _ _ ((refl, refl), (word_of_number space h.0, (word_of_number page h.1, (word_of_number order h.2, tt)))) refl
step_line (Bind endpoint space) h = line_from _ _ ((refl, refl), (word_of_number endpoint h.0, (word_of_number space h.1, tt))) refl
step_line (Unbind binding) h = line_from _ _ ((refl, refl), (word_of_number binding h, tt)) refl
step_line (Advance binding) h = line_from _ _ ((refl, refl), (word_of_number binding h, tt)) refl
step_line (Pump endpoint) h = line_from _ _ ((refl, refl), (word_of_number endpoint h, tt)) refl
step_line (Serve endpoint) h = line_from _ _ ((refl, refl), (word_of_number endpoint h, tt)) refl
step_line (Reset endpoint) h = line_from _ _ ((refl, refl), (word_of_number endpoint h, tt)) refl
step_line (Take worker) h = line_from _ _ ((refl, refl), (word_of_number worker h, tt)) refl
step_line (Reply worker verdict) h = line_from _ _ ((refl, refl), (word_of_number worker h, (word_of_verdict verdict, tt))) refl
step_line (Ask endpoint pasid page) h =
    line_from _ _ ((refl, refl), (word_of_number endpoint h.0, (word_of_number pasid h.1, (word_of_number page h.2, tt)))) refl
step_line (BeginUse endpoint pasid page write) h =
    line_from _ _ ((refl, refl), (word_of_number endpoint h.0, (word_of_number pasid h.1, (word_of_number page h.2, (word_of_access write, tt))))) refl
step_line (EndUse endpoint slot) h = line_from _ _ ((refl, refl), (word_of_number endpoint h.0, (word_of_number slot h.1, tt))) refl
step_line (Evict endpoint pasid page) h =
    line_from _ _ ((refl, refl), (word_of_number endpoint h.0, (word_of_number pasid h.1, (word_of_number page h.2, tt)))) refl
step_line (Fault endpoint pasid page read write group last) h =
    let bits : AreWords (flags_word read write ∷ group_word group ∷ last_word last ∷ []) =
    (word_of_flags read write, (word_of_group group h.4, (word_of_last last, tt))) in
    line_from _ _ ((refl, refl), (word_of_number endpoint h.0, (word_of_number pasid h.1, (word_of_number page h.2, bits)))) refl
step_line (Finish endpoint vector count) h =
    line_from _ _ ((refl, refl), (word_of_number endpoint h.0, (word_of_vector vector, (word_of_number count h.2, tt)))) refl
step_line (Quit endpoint pasid) h = line_from _ _ ((refl, refl), (word_of_number endpoint h.0, (word_of_number pasid h.1, tt))) refl
step_line (Deliver message) h = line_from _ _ ((refl, refl), (word_of_number message h, tt)) refl
step_line (Look frame) h = line_from _ _ ((refl, refl), (word_of_number frame h, tt)) refl
step_line (Bearer pasid) h = line_from _ _ ((refl, refl), (word_of_number pasid h, tt)) refl

step_read : (step : Step) → HasLine step → step_of (step_words step) ≡ Ok step
unfolding step_of host_step endpoint_step one_number space_step drop_step map_step unmap_step unmapr_step look_step bearer_step bind_step unbind_step
    advance_step pump_step serve_step reset_step take_step answer_step ask_step use_step end_step evict_step fault_step finish_step quit_step deliver_step
step_read Space h = refl
step_read (DropSpace space) h = rw (number_decimal space h) refl
step_read (Map space page write) h = rw (number_decimal space h.0, number_decimal page h.1, access_read write) refl
step_read (Unmap space page count) h = rw (number_decimal space h.0, number_decimal page h.1, number_decimal count h.2) refl
step_read (UnmapRange space page order) h = rw (number_decimal space h.0, number_decimal page h.1, number_decimal order h.2) refl
step_read (Bind endpoint space) h = rw (number_decimal endpoint h.0, number_decimal space h.1) refl
step_read (Unbind binding) h = rw (number_decimal binding h) refl
step_read (Advance binding) h = rw (number_decimal binding h) refl
step_read (Pump endpoint) h = rw (number_decimal endpoint h) refl
step_read (Serve endpoint) h = rw (number_decimal endpoint h) refl
step_read (Reset endpoint) h = rw (number_decimal endpoint h) refl
step_read (Take worker) h = rw (number_decimal worker h) refl
step_read (Reply worker verdict) h = rw (number_decimal worker h, verdict_read verdict) refl
step_read (Ask endpoint pasid page) h = rw (number_decimal endpoint h.0, number_decimal pasid h.1, number_decimal page h.2) refl
step_read (BeginUse endpoint pasid page write) h =
    rw (number_decimal endpoint h.0, number_decimal pasid h.1, number_decimal page h.2, access_read write) refl
step_read (EndUse endpoint slot) h = rw (number_decimal endpoint h.0, number_decimal slot h.1) refl
step_read (Evict endpoint pasid page) h = rw (number_decimal endpoint h.0, number_decimal pasid h.1, number_decimal page h.2) refl
step_read (Fault endpoint pasid page read write group last) h =
    rw (number_decimal endpoint h.0, number_decimal pasid h.1, number_decimal page h.2, flags_read read write h.3, group_read group h.4, last_read last) refl
step_read (Finish endpoint vector count) h = rw (number_decimal endpoint h.0, vector_read vector h.1, number_decimal count h.2) refl
step_read (Quit endpoint pasid) h = rw (number_decimal endpoint h.0, number_decimal pasid h.1) refl
step_read (Deliver message) h = rw (number_decimal message h) refl
step_read (Look frame) h = rw (number_decimal frame h) refl
step_read (Bearer pasid) h = rw (number_decimal pasid h) refl

all_lines : (steps : List Step) → AllByRecursion HasLine steps → AllByRecursion IsLine (map step_words steps)
all_lines [] h = tt
all_lines (step ∷ steps) h = (step_line step h.0, all_lines steps h.1)

steps_read : (first : ℕ) (steps : List Step) → AllByRecursion HasLine steps
    → steps_of (enumerate_from first (map (join_with_byte 32) (map step_words steps))) ≡ Ok steps
steps_read first [] h = refl
steps_read first (step ∷ steps) h =
    let said = ap step_of (step_line step h.0).read ∙ step_read step h.0 in
    rw (said, steps_read (first + 1) steps h.1) refl

script_read : (count : ℕ) (config : Config) (steps : List Step) → HasConfigLine config → AllByRecursion HasLine steps
    → script_of count (enumerate_from 1 (map (join_with_byte 32) (config_words config ∷ map step_words steps)))
    ≡ Ok (record { config = config; steps = steps })
script_read count config steps h k =
    let said = ap config_of (config_line config h).read ∙ config_read config h in
    rw (said, steps_read 2 steps k) refl

scenario_of-said : (text : List ℕ) (lines : List (ℕ × List ℕ)) → is_too_large text ≡ false → said_lines 1 (lines_of text) ≡ lines
    → scenario_of text ≡ script_of (length (lines_of text)) lines
unfolding scenario_of
scenario_of-said text lines small said =
    ap (λ t. cond t (fault 0 TooLarge) (script_of (length (lines_of text)) (said_lines 1 (lines_of text)))) small
    ∙ ap (script_of (length (lines_of text))) said

pub scripts_are_read : ScriptsAreRead
scripts_are_read script config steps small =
    let lines = config_words script.config ∷ map step_words script.steps in
    let each : AllByRecursion IsLine lines = (config_line script.config config, all_lines script.steps steps) in
    let text : lines_of (script_text script) ≡ map (join_with_byte 32) lines = lines_of-text lines each in
    scenario_of-said (script_text script) _ small (ap (said_lines 1) text ∙ said_lines-all 1 lines each)
    ∙ script_read (length (lines_of (script_text script))) script.config script.steps config steps
