-- The text of an answer tells the answer: its words before the first digit tell the variant, and the rest tells the
-- numbers.
use Rattle.std.specs.Prelude.{◌≡◌, ℕ, suc, ◌+◌, ◌^◌, ◌<◌, ◌≤◌, ◌==◌, nat_le, Bool, true, false, ◌&&◌, ◌%◌, List, [], ◌∷◌, ◌++◌, drop, All, bytes_eq}
use Rattle.std.specs.Prelude.{position, unwrap_or, codes, decimal, refl}
use Rattle.std.proofs.Common.{append_assoc, append-nil, arith, sym, ◌∙◌, ap, eq-eqb, lit≤}
use Rattle.std.proofs.lemmas.Bool.Decides.{nat_tests}
use Rattle.std.proofs.lemmas.Fmt.{decimal_by_steps, decimal_injective}
use Rattle.sva_step.specs.Refusals.{number_of, name_of, refusal_text}
use Rattle.sva_step.specs.Texts.{answer_text, frames_text, InRange, TextsTellApart}
use Rattle.sva_step.specs.declared.refusals.Refusal.{Refusal}
use Rattle.sva_step.specs.declared.answers.Answer.{Answer}
use Rattle.sva_step.specs.declared.answers.Answer.TheVariants.{Space, Gone, Frame, FreeFrames, WithheldFrames, RangeFree, RangeWithheld, Binding, Stopping}
use Rattle.sva_step.specs.declared.answers.Answer.TheVariants.{Draining, Invalidating, Quiet, Released, Idle, Itag, Blocked, WaitDone, Empty, Part, Job}
use Rattle.sva_step.specs.declared.answers.Answer.TheVariants.{Resetting, JobTaken, Success, Invalid, Failure, Dropped, Tag, Use, Ended, Dead, Evicted}
use Rattle.sva_step.specs.declared.answers.Answer.TheVariants.{Group, Sent, Marker, Free, Mapped, Withheld, Started, Reset, NoTranslation, Full, Held}
use Rattle.sva_step.specs.declared.answers.Answer.TheVariants.{Taken, Answered, Stale, Completion, Freed, Queued, Marked, ResetDone, Bearer, NoBearer}
use Rattle.sva_step.proofs.RefusalLemmas.{number_of-le}

absurd_false : {A : Type 0} → false ≡ true → A
absurd_false h = cc

-- a digit of a decimal number
abbrev IsDigit : ℕ → Type 0
IsDigit c = (48 ≤ c) × (c ≤ 57)

abbrev is_digit : ℕ → Bool
is_digit c = nat_le 48 c && nat_le c 57

abbrev AreDigits : List ℕ → Type 0
AreDigits [] = Unit {0}
AreDigits (c ∷ cs) = IsDigit c × AreDigits cs

-- one digit or more
abbrev IsNumber : List ℕ → Type 0
IsNumber [] = ⊥
IsNumber (c ∷ cs) = IsDigit c × AreDigits cs

AreDigits-push : (cs : List ℕ) (c : ℕ) → AreDigits cs → IsDigit c → AreDigits (cs ++ c ∷ [])
AreDigits-push [] c all one = (one, tt)
AreDigits-push (d ∷ cs) c all one = (all.0, AreDigits-push cs c all.1 one)

IsNumber-push : (cs : List ℕ) (c : ℕ) → IsNumber cs → IsDigit c → IsNumber (cs ++ c ∷ [])
IsNumber-push [] c all one = absurd all
IsNumber-push (d ∷ cs) c all one = (all.0, AreDigits-push cs c all.1 one)

IsNumber-decimal : (n : ℕ) → n < 2 ^ 64 → IsNumber (decimal n)
IsNumber-decimal n small =
    decimal_by_steps (λ m ds. IsNumber ds) (λ m below. ((omega arith, omega arith), tt))
    (λ m ds above number. IsNumber-push ds (48 + m % 10) number (omega arith, omega arith)) n small

AreDigits-IsNumber : (cs : List ℕ) → IsNumber cs → AreDigits cs
AreDigits-IsNumber [] number = tt
AreDigits-IsNumber (c ∷ cs) number = number

-- nothing, or a space and more
abbrev IsBehind : List ℕ → Type 0
IsBehind [] = Unit {0}
IsBehind (c ∷ cs) = c ≡ 32

-- the number in front is one, and what stands behind it too
same_front : (ds es t u : List ℕ) → AreDigits ds → AreDigits es → IsBehind t → IsBehind u → ds ++ t ≡ es ++ u
    → (ds ≡ es) × (t ≡ u)
same_front [] [] t u all all' behind behind' same = (refl, same)
same_front [] (e ∷ es) [] u all all' behind behind' same = cc
same_front [] (e ∷ es) (c ∷ t) u all all' behind behind' same =
    let head : c ≡ e = cc in absurd (omega arith)
same_front (d ∷ ds) [] t [] all all' behind behind' same = cc
same_front (d ∷ ds) [] t (c ∷ u) all all' behind behind' same =
    let head : d ≡ c = cc in absurd (omega arith)
same_front (d ∷ ds) (e ∷ es) t u all all' behind behind' same =
    let head : d ≡ e = cc in
    let tail : ds ++ t ≡ es ++ u = cc in
    let rest : (ds ≡ es) × (t ≡ u) = same_front ds es t u all.1 all'.1 behind behind' tail in
    (λ i. head i ∷ rest.0 i, rest.1)

same_numbers : (m n : ℕ) (t u : List ℕ) → m < 2 ^ 64 → n < 2 ^ 64 → IsBehind t → IsBehind u
    → decimal m ++ t ≡ decimal n ++ u → (m ≡ n) × (t ≡ u)
same_numbers m n t u small small' behind behind' same =
    let parts : (decimal m ≡ decimal n) × (t ≡ u) =
    same_front (decimal m) (decimal n) t u
    (AreDigits-IsNumber (decimal m) (IsNumber-decimal m small))
    (AreDigits-IsNumber (decimal n) (IsNumber-decimal n small')) behind behind' same in
    (decimal_injective m n small small' parts.0, parts.1)

IsBehind-frames_text : (frames : List ℕ) → IsBehind (frames_text frames)
IsBehind-frames_text [] = tt
IsBehind-frames_text (frame ∷ frames) = refl

AllSmall-head : (frame : ℕ) (frames : List ℕ) → All (λ f. f < 2 ^ 64) (frame ∷ frames) → frame < 2 ^ 64
AllSmall-head frame frames all = all 0 0 (omega arith)

AllSmall-tail : (frame : ℕ) (frames : List ℕ) → All (λ f. f < 2 ^ 64) (frame ∷ frames) → All (λ f. f < 2 ^ 64) frames
AllSmall-tail frame frames all = λ k d within. all (suc k) d (omega arith)

same_frames : (fs gs : List ℕ) → All (λ frame. frame < 2 ^ 64) fs → All (λ frame. frame < 2 ^ 64) gs
    → frames_text fs ≡ frames_text gs → fs ≡ gs
same_frames [] [] all all' same = refl
same_frames [] (g ∷ gs) all all' same = cc
same_frames (f ∷ fs) [] all all' same = cc
same_frames (f ∷ fs) (g ∷ gs) all all' same =
    let behind : decimal f ++ frames_text fs ≡ decimal g ++ frames_text gs = ap (drop 1) same in
    let parts : (f ≡ g) × (frames_text fs ≡ frames_text gs) =
    same_numbers f g (frames_text fs) (frames_text gs) (AllSmall-head f fs all) (AllSmall-head g gs all')
    (IsBehind-frames_text fs) (IsBehind-frames_text gs)
    behind in
    let rest : fs ≡ gs = same_frames fs gs (AllSmall-tail f fs all) (AllSmall-tail g gs all') parts.1 in
    λ i. parts.0 i ∷ rest i

-- what stands before the first digit
abbrev words_at : Bool → ℕ → List ℕ → List ℕ
words_at true c rest = []
words_at false c rest = c ∷ rest

abbrev words : List ℕ → List ℕ
words [] = []
words (c ∷ cs) = words_at (is_digit c) c (words cs)

is_digit-digit : (c : ℕ) → IsDigit c → is_digit c ≡ true
is_digit-digit c digit = grind (arith, nat_tests)

words-number : (ds t : List ℕ) → IsNumber ds → words (ds ++ t) ≡ []
words-number [] t number = absurd number
words-number (d ∷ ds) t number = ap (λ b. words_at b d (words (ds ++ t))) (is_digit-digit d number.0)

words-decimal : (n : ℕ) (t : List ℕ) → n < 2 ^ 64 → words (decimal n ++ t) ≡ []
words-decimal n t small = words-number (decimal n) t (IsNumber-decimal n small)

words-alone : (n : ℕ) → n < 2 ^ 64 → words (decimal n) ≡ []
words-alone n small = ap words (sym (append-nil (decimal n))) ∙ words-decimal n [] small

-- pieces behind one another, in the other grouping
three_right : (a b c : List ℕ) → a ++ b ++ c ≡ a ++ (b ++ c)
three_right a b c = append_assoc a b c

five_right : (a b c d e : List ℕ) → a ++ b ++ c ++ d ++ e ≡ a ++ (b ++ (c ++ (d ++ e)))
five_right a b c d e = simp append_assoc

-- the words before the first digit, by variant
abbrev first_words : Answer → List ℕ
first_words (Space space) = codes "space "
first_words Gone = codes "gone"
first_words (Frame frame) = codes "frame "
first_words (FreeFrames frames) = codes "free "
first_words (WithheldFrames frames) = codes "withheld "
first_words (RangeFree frames) = codes "range free "
first_words (RangeWithheld frames) = codes "range withheld "
first_words (Binding binding pasid) = codes "binding "
first_words Stopping = codes "stopping"
first_words Draining = codes "draining"
first_words Invalidating = codes "invalidating"
first_words Quiet = codes "quiet"
first_words Released = codes "released"
first_words Idle = codes "idle"
first_words (Itag itag) = codes "itag "
first_words Blocked = codes "blocked"
first_words WaitDone = codes "wait done"
first_words Empty = codes "empty"
first_words Part = codes "part"
first_words Job = codes "job"
first_words Resetting = codes "resetting"
first_words (JobTaken binding group pages) = codes "job binding "
first_words (Success pages) = codes "success "
first_words Invalid = codes "invalid"
first_words Failure = codes "failure"
first_words Dropped = codes "dropped"
first_words (Tag tag) = codes "tag "
first_words (Use slot frame) = codes "use "
first_words Ended = codes "ended"
first_words Dead = codes "dead"
first_words Evicted = codes "evicted"
first_words (Group group) = codes "group "
first_words (Sent count) = codes "sent "
first_words Marker = codes "marker"
first_words Free = codes "free"
first_words Mapped = codes "mapped"
first_words Withheld = codes "withheld"
first_words Started = codes "started"
first_words Reset = codes "reset"
first_words NoTranslation = codes "none"
first_words Full = codes "full"
first_words Held = codes "held"
first_words Taken = codes "taken"
first_words Answered = codes "answered"
first_words Stale = codes "stale"
first_words Completion = codes "completion"
first_words (Freed count) = codes "freed "
first_words Queued = codes "queued"
first_words Marked = codes "marked"
first_words ResetDone = codes "reset done"
first_words (Bearer space bindings) = codes "bearer "
first_words NoBearer = codes "bearer none"

abbrev shape : Answer → ℕ
shape (Space space) = 0
shape Gone = 1
shape (Frame frame) = 2
shape (FreeFrames frames) = 3
shape (WithheldFrames frames) = 4
shape (RangeFree frames) = 5
shape (RangeWithheld frames) = 6
shape (Binding binding pasid) = 7
shape Stopping = 8
shape Draining = 9
shape Invalidating = 10
shape Quiet = 11
shape Released = 12
shape Idle = 13
shape (Itag itag) = 14
shape Blocked = 15
shape WaitDone = 16
shape Empty = 17
shape Part = 18
shape Job = 19
shape Resetting = 20
shape (JobTaken binding group pages) = 21
shape (Success pages) = 22
shape Invalid = 23
shape Failure = 24
shape Dropped = 25
shape (Tag tag) = 26
shape (Use slot frame) = 27
shape Ended = 28
shape Dead = 29
shape Evicted = 30
shape (Group group) = 31
shape (Sent count) = 32
shape Marker = 33
shape Free = 34
shape Mapped = 35
shape Withheld = 36
shape Started = 37
shape Reset = 38
shape NoTranslation = 39
shape Full = 40
shape Held = 41
shape Taken = 42
shape Answered = 43
shape Stale = 44
shape Completion = 45
shape (Freed count) = 46
shape Queued = 47
shape Marked = 48
shape ResetDone = 49
shape (Bearer space bindings) = 50
shape NoBearer = 51

-- the variants' words, each at its variant's number
abbrev all_words : List (List ℕ)
all_words = codes "space " ∷ codes "gone" ∷ codes "frame " ∷ codes "free " ∷ codes "withheld " ∷ codes "range free " ∷ codes "range withheld "
    ∷ codes "binding " ∷ codes "stopping" ∷ codes "draining" ∷ codes "invalidating" ∷ codes "quiet" ∷ codes "released" ∷ codes "idle" ∷ codes "itag "
    ∷ codes "blocked" ∷ codes "wait done" ∷ codes "empty" ∷ codes "part" ∷ codes "job" ∷ codes "resetting" ∷ codes "job binding " ∷ codes "success "
    ∷ codes "invalid" ∷ codes "failure" ∷ codes "dropped" ∷ codes "tag " ∷ codes "use " ∷ codes "ended" ∷ codes "dead" ∷ codes "evicted"
    ∷ codes "group " ∷ codes "sent " ∷ codes "marker" ∷ codes "free" ∷ codes "mapped" ∷ codes "withheld" ∷ codes "started" ∷ codes "reset"
    ∷ codes "none" ∷ codes "full" ∷ codes "held" ∷ codes "taken" ∷ codes "answered" ∷ codes "stale" ∷ codes "completion" ∷ codes "freed "
    ∷ codes "queued" ∷ codes "marked" ∷ codes "reset done" ∷ codes "bearer " ∷ codes "bearer none" ∷ []

abbrev shape_at : List ℕ → ℕ
shape_at ws = unwrap_or (position (λ known. bytes_eq known ws) all_words) 52

shape_at-first_words : (a : Answer) → shape_at (first_words a) ≡ shape a
shape_at-first_words (Space space) = refl
shape_at-first_words Gone = refl
shape_at-first_words (Frame frame) = refl
shape_at-first_words (FreeFrames frames) = refl
shape_at-first_words (WithheldFrames frames) = refl
shape_at-first_words (RangeFree frames) = refl
shape_at-first_words (RangeWithheld frames) = refl
shape_at-first_words (Binding binding pasid) = refl
shape_at-first_words Stopping = refl
shape_at-first_words Draining = refl
shape_at-first_words Invalidating = refl
shape_at-first_words Quiet = refl
shape_at-first_words Released = refl
shape_at-first_words Idle = refl
shape_at-first_words (Itag itag) = refl
shape_at-first_words Blocked = refl
shape_at-first_words WaitDone = refl
shape_at-first_words Empty = refl
shape_at-first_words Part = refl
shape_at-first_words Job = refl
shape_at-first_words Resetting = refl
shape_at-first_words (JobTaken binding group pages) = refl
shape_at-first_words (Success pages) = refl
shape_at-first_words Invalid = refl
shape_at-first_words Failure = refl
shape_at-first_words Dropped = refl
shape_at-first_words (Tag tag) = refl
shape_at-first_words (Use slot frame) = refl
shape_at-first_words Ended = refl
shape_at-first_words Dead = refl
shape_at-first_words Evicted = refl
shape_at-first_words (Group group) = refl
shape_at-first_words (Sent count) = refl
shape_at-first_words Marker = refl
shape_at-first_words Free = refl
shape_at-first_words Mapped = refl
shape_at-first_words Withheld = refl
shape_at-first_words Started = refl
shape_at-first_words Reset = refl
shape_at-first_words NoTranslation = refl
shape_at-first_words Full = refl
shape_at-first_words Held = refl
shape_at-first_words Taken = refl
shape_at-first_words Answered = refl
shape_at-first_words Stale = refl
shape_at-first_words Completion = refl
shape_at-first_words (Freed count) = refl
shape_at-first_words Queued = refl
shape_at-first_words Marked = refl
shape_at-first_words ResetDone = refl
shape_at-first_words (Bearer space bindings) = refl
shape_at-first_words NoBearer = refl

words-answer_text : (a : Answer) → InRange a → words (answer_text a) ≡ first_words a
words-answer_text (Space space) range = ap (λ ws. codes "space " ++ ws) (words-alone space range)
words-answer_text Gone range = refl
words-answer_text (Frame frame) range = ap (λ ws. codes "frame " ++ ws) (words-alone frame range)
words-answer_text (FreeFrames []) range = absurd (omega (arith, range.0))
words-answer_text (FreeFrames (frame ∷ frames)) range =
    ap (λ ws. codes "free " ++ ws) (words-decimal frame (frames_text frames) (AllSmall-head frame frames range.1))
words-answer_text (WithheldFrames []) range = absurd (omega (arith, range.0))
words-answer_text (WithheldFrames (frame ∷ frames)) range =
    ap (λ ws. codes "withheld " ++ ws) (words-decimal frame (frames_text frames) (AllSmall-head frame frames range.1))
words-answer_text (RangeFree frames) range = ap (λ ws. codes "range free " ++ ws) (words-alone frames range)
words-answer_text (RangeWithheld frames) range = ap (λ ws. codes "range withheld " ++ ws) (words-alone frames range)
words-answer_text (Binding binding pasid) range =
    ap (λ ws. codes "binding " ++ ws)
    (ap words (three_right (decimal binding) (codes " pasid ") (decimal pasid)) ∙ words-decimal binding _ range.0)
words-answer_text Stopping range = refl
words-answer_text Draining range = refl
words-answer_text Invalidating range = refl
words-answer_text Quiet range = refl
words-answer_text Released range = refl
words-answer_text Idle range = refl
words-answer_text (Itag itag) range = ap (λ ws. codes "itag " ++ ws) (words-alone itag range)
words-answer_text Blocked range = refl
words-answer_text WaitDone range = refl
words-answer_text Empty range = refl
words-answer_text Part range = refl
words-answer_text Job range = refl
words-answer_text Resetting range = refl
words-answer_text (JobTaken binding group pages) range =
    ap (λ ws. codes "job binding " ++ ws)
    (ap words (five_right (decimal binding) (codes " group ") (decimal group) (codes " pages ") (decimal pages)) ∙ words-decimal binding _ range.0)
words-answer_text (Success pages) range = ap (λ ws. codes "success " ++ ws) (words-alone pages range)
words-answer_text Invalid range = refl
words-answer_text Failure range = refl
words-answer_text Dropped range = refl
words-answer_text (Tag tag) range = ap (λ ws. codes "tag " ++ ws) (words-alone tag range)
words-answer_text (Use slot frame) range =
    ap (λ ws. codes "use " ++ ws)
    (ap words (three_right (decimal slot) (codes " frame ") (decimal frame)) ∙ words-decimal slot _ range.0)
words-answer_text Ended range = refl
words-answer_text Dead range = refl
words-answer_text Evicted range = refl
words-answer_text (Group group) range = ap (λ ws. codes "group " ++ ws) (words-alone group range)
words-answer_text (Sent count) range = ap (λ ws. codes "sent " ++ ws) (words-alone count range)
words-answer_text Marker range = refl
words-answer_text Free range = refl
words-answer_text Mapped range = refl
words-answer_text Withheld range = refl
words-answer_text Started range = refl
words-answer_text Reset range = refl
words-answer_text NoTranslation range = refl
words-answer_text Full range = refl
words-answer_text Held range = refl
words-answer_text Taken range = refl
words-answer_text Answered range = refl
words-answer_text Stale range = refl
words-answer_text Completion range = refl
words-answer_text (Freed count) range = ap (λ ws. codes "freed " ++ ws) (words-alone count range)
words-answer_text Queued range = refl
words-answer_text Marked range = refl
words-answer_text ResetDone range = refl
words-answer_text (Bearer space bindings) range =
    ap (λ ws. codes "bearer " ++ ws)
    (ap words (three_right (decimal space) (codes " bindings ") (decimal bindings)) ∙ words-decimal space _ range.0)
words-answer_text NoBearer range = refl

shape-answer_text : (a : Answer) → InRange a → shape_at (words (answer_text a)) ≡ shape a
shape-answer_text a range = ap shape_at (words-answer_text a range) ∙ shape_at-first_words a

same_by_shape : (a b : Answer) → InRange a → InRange b → (shape a == shape b) ≡ true → answer_text a ≡ answer_text b → a ≡ b
same_by_shape (Space space) (Space space') range range' shape same =
    λ i. Space (decimal_injective space space' range range' (ap (drop 6) same) i)
same_by_shape Gone Gone range range' shape same = refl
same_by_shape (Frame frame) (Frame frame') range range' shape same =
    λ i. Frame (decimal_injective frame frame' range range' (ap (drop 6) same) i)
same_by_shape (FreeFrames frames) (FreeFrames frames') range range' shape same =
    λ i. FreeFrames (same_frames frames frames' range.1 range'.1 (ap (drop 4) same) i)
same_by_shape (WithheldFrames frames) (WithheldFrames frames') range range' shape same =
    λ i. WithheldFrames (same_frames frames frames' range.1 range'.1 (ap (drop 8) same) i)
same_by_shape (RangeFree frames) (RangeFree frames') range range' shape same =
    λ i. RangeFree (decimal_injective frames frames' range range' (ap (drop 11) same) i)
same_by_shape (RangeWithheld frames) (RangeWithheld frames') range range' shape same =
    λ i. RangeWithheld (decimal_injective frames frames' range range' (ap (drop 15) same) i)
same_by_shape (Binding binding pasid) (Binding binding' pasid') range range' shape same =
    let parted : (decimal binding) ++ ((codes " pasid ") ++ ((decimal pasid))) ≡ (decimal binding') ++ ((codes " pasid ") ++ ((decimal pasid'))) =
    sym (three_right (decimal binding) (codes " pasid ") (decimal pasid)) ∙ ap (drop 8) same
    ∙ three_right (decimal binding') (codes " pasid ") (decimal pasid') in
    let part0 : (binding ≡ binding') × ((codes " pasid ") ++ ((decimal pasid)) ≡ (codes " pasid ") ++ ((decimal pasid'))) =
    same_numbers binding binding' ((codes " pasid ") ++ ((decimal pasid))) ((codes " pasid ") ++ ((decimal pasid'))) range.0 range'.0 refl refl parted in
    let last : pasid ≡ pasid' = decimal_injective pasid pasid' range.1 range'.1 (ap (drop 7) part0.1) in
    λ i. Binding (part0.0 i) (last i)
same_by_shape Stopping Stopping range range' shape same = refl
same_by_shape Draining Draining range range' shape same = refl
same_by_shape Invalidating Invalidating range range' shape same = refl
same_by_shape Quiet Quiet range range' shape same = refl
same_by_shape Released Released range range' shape same = refl
same_by_shape Idle Idle range range' shape same = refl
same_by_shape (Itag itag) (Itag itag') range range' shape same =
    λ i. Itag (decimal_injective itag itag' range range' (ap (drop 5) same) i)
same_by_shape Blocked Blocked range range' shape same = refl
same_by_shape WaitDone WaitDone range range' shape same = refl
same_by_shape Empty Empty range range' shape same = refl
same_by_shape Part Part range range' shape same = refl
same_by_shape Job Job range range' shape same = refl
same_by_shape Resetting Resetting range range' shape same = refl
same_by_shape (JobTaken binding group pages) (JobTaken binding' group' pages') range range' shape same =
    let parted : (decimal binding) ++ ((codes " group ") ++ ((decimal group) ++ ((codes " pages ") ++ ((decimal pages))))) ≡ (decimal binding')
    ++ ((codes " group ") ++ ((decimal group') ++ ((codes " pages ") ++ ((decimal pages'))))) =
    sym (five_right (decimal binding) (codes " group ") (decimal group) (codes " pages ") (decimal pages)) ∙ ap (drop 12) same
    ∙ five_right (decimal binding') (codes " group ") (decimal group') (codes " pages ") (decimal pages') in
    let part0 : (binding ≡ binding')
    × ((codes " group ") ++ ((decimal group) ++ ((codes " pages ") ++ ((decimal pages)))) ≡ (codes " group ")
    ++ ((decimal group') ++ ((codes " pages ") ++ ((decimal pages'))))) =
    same_numbers binding binding' ((codes " group ") ++ ((decimal group) ++ ((codes " pages ") ++ ((decimal pages))))) ((codes " group ")
    ++ ((decimal group') ++ ((codes " pages ") ++ ((decimal pages'))))) range.0 range'.0 refl refl parted in
    let part1 : (group ≡ group') × ((codes " pages ") ++ ((decimal pages)) ≡ (codes " pages ") ++ ((decimal pages'))) =
    same_numbers group group' ((codes " pages ") ++ ((decimal pages))) ((codes " pages ") ++ ((decimal pages'))) range.1 range'.1 refl refl
    (ap (drop 7) part0.1) in
    let last : pages ≡ pages' = decimal_injective pages pages' range.2 range'.2 (ap (drop 7) part1.1) in
    λ i. JobTaken (part0.0 i) (part1.0 i) (last i)
same_by_shape (Success pages) (Success pages') range range' shape same =
    λ i. Success (decimal_injective pages pages' range range' (ap (drop 8) same) i)
same_by_shape Invalid Invalid range range' shape same = refl
same_by_shape Failure Failure range range' shape same = refl
same_by_shape Dropped Dropped range range' shape same = refl
same_by_shape (Tag tag) (Tag tag') range range' shape same =
    λ i. Tag (decimal_injective tag tag' range range' (ap (drop 4) same) i)
same_by_shape (Use slot frame) (Use slot' frame') range range' shape same =
    let parted : (decimal slot) ++ ((codes " frame ") ++ ((decimal frame))) ≡ (decimal slot') ++ ((codes " frame ") ++ ((decimal frame'))) =
    sym (three_right (decimal slot) (codes " frame ") (decimal frame)) ∙ ap (drop 4) same ∙ three_right (decimal slot') (codes " frame ") (decimal frame') in
    let part0 : (slot ≡ slot') × ((codes " frame ") ++ ((decimal frame)) ≡ (codes " frame ") ++ ((decimal frame'))) =
    same_numbers slot slot' ((codes " frame ") ++ ((decimal frame))) ((codes " frame ") ++ ((decimal frame'))) range.0 range'.0 refl refl parted in
    let last : frame ≡ frame' = decimal_injective frame frame' range.1 range'.1 (ap (drop 7) part0.1) in
    λ i. Use (part0.0 i) (last i)
same_by_shape Ended Ended range range' shape same = refl
same_by_shape Dead Dead range range' shape same = refl
same_by_shape Evicted Evicted range range' shape same = refl
same_by_shape (Group group) (Group group') range range' shape same =
    λ i. Group (decimal_injective group group' range range' (ap (drop 6) same) i)
same_by_shape (Sent count) (Sent count') range range' shape same =
    λ i. Sent (decimal_injective count count' range range' (ap (drop 5) same) i)
same_by_shape Marker Marker range range' shape same = refl
same_by_shape Free Free range range' shape same = refl
same_by_shape Mapped Mapped range range' shape same = refl
same_by_shape Withheld Withheld range range' shape same = refl
same_by_shape Started Started range range' shape same = refl
same_by_shape Reset Reset range range' shape same = refl
same_by_shape NoTranslation NoTranslation range range' shape same = refl
same_by_shape Full Full range range' shape same = refl
same_by_shape Held Held range range' shape same = refl
same_by_shape Taken Taken range range' shape same = refl
same_by_shape Answered Answered range range' shape same = refl
same_by_shape Stale Stale range range' shape same = refl
same_by_shape Completion Completion range range' shape same = refl
same_by_shape (Freed count) (Freed count') range range' shape same =
    λ i. Freed (decimal_injective count count' range range' (ap (drop 6) same) i)
same_by_shape Queued Queued range range' shape same = refl
same_by_shape Marked Marked range range' shape same = refl
same_by_shape ResetDone ResetDone range range' shape same = refl
same_by_shape (Bearer space bindings) (Bearer space' bindings') range range' shape same =
    let parted : decimal space ++ (codes " bindings " ++ decimal bindings) ≡ decimal space' ++ (codes " bindings " ++ decimal bindings') =
    sym (three_right (decimal space) (codes " bindings ") (decimal bindings)) ∙ ap (drop 7) same
    ∙ three_right (decimal space') (codes " bindings ") (decimal bindings') in
    let parts : (space ≡ space') × (codes " bindings " ++ decimal bindings ≡ codes " bindings " ++ decimal bindings') =
    same_numbers space space' (codes " bindings " ++ decimal bindings) (codes " bindings " ++ decimal bindings')
    range.0 range'.0 refl refl parted in
    let last : bindings ≡ bindings' = decimal_injective bindings bindings' range.1 range'.1 (ap (drop 10) parts.1) in
    λ i. Bearer (parts.0 i) (last i)
same_by_shape NoBearer NoBearer range range' shape same = refl
same_by_shape _ _ range range' shape same = absurd_false shape

shape-le : (a : Answer) → shape a ≤ 51
shape-le (Space space) = lit≤ tt
shape-le Gone = lit≤ tt
shape-le (Frame frame) = lit≤ tt
shape-le (FreeFrames frames) = lit≤ tt
shape-le (WithheldFrames frames) = lit≤ tt
shape-le (RangeFree frames) = lit≤ tt
shape-le (RangeWithheld frames) = lit≤ tt
shape-le (Binding binding pasid) = lit≤ tt
shape-le Stopping = lit≤ tt
shape-le Draining = lit≤ tt
shape-le Invalidating = lit≤ tt
shape-le Quiet = lit≤ tt
shape-le Released = lit≤ tt
shape-le Idle = lit≤ tt
shape-le (Itag itag) = lit≤ tt
shape-le Blocked = lit≤ tt
shape-le WaitDone = lit≤ tt
shape-le Empty = lit≤ tt
shape-le Part = lit≤ tt
shape-le Job = lit≤ tt
shape-le Resetting = lit≤ tt
shape-le (JobTaken binding group pages) = lit≤ tt
shape-le (Success pages) = lit≤ tt
shape-le Invalid = lit≤ tt
shape-le Failure = lit≤ tt
shape-le Dropped = lit≤ tt
shape-le (Tag tag) = lit≤ tt
shape-le (Use slot frame) = lit≤ tt
shape-le Ended = lit≤ tt
shape-le Dead = lit≤ tt
shape-le Evicted = lit≤ tt
shape-le (Group group) = lit≤ tt
shape-le (Sent count) = lit≤ tt
shape-le Marker = lit≤ tt
shape-le Free = lit≤ tt
shape-le Mapped = lit≤ tt
shape-le Withheld = lit≤ tt
shape-le Started = lit≤ tt
shape-le Reset = lit≤ tt
shape-le NoTranslation = lit≤ tt
shape-le Full = lit≤ tt
shape-le Held = lit≤ tt
shape-le Taken = lit≤ tt
shape-le Answered = lit≤ tt
shape-le Stale = lit≤ tt
shape-le Completion = lit≤ tt
shape-le (Freed count) = lit≤ tt
shape-le Queued = lit≤ tt
shape-le Marked = lit≤ tt
shape-le ResetDone = lit≤ tt
shape-le (Bearer space bindings) = lit≤ tt
shape-le NoBearer = lit≤ tt

words-refusal_text : (refusal : Refusal) → words (refusal_text refusal) ≡ codes "refused "
words-refusal_text refusal =
    let small : number_of refusal < 2 ^ 64 = omega (arith, number_of-le refusal) in
    ap (λ ws. codes "refused " ++ ws)
    (ap words (three_right (decimal (number_of refusal)) (codes " ") (name_of refusal))
    ∙ words-decimal (number_of refusal) _ small)

pub texts_tell_apart : TextsTellApart
texts_tell_apart = record {
  answers = λ a b range range' same.
      same_by_shape a b range range'
      (eq-eqb (shape a) (shape b)
      (sym (shape-answer_text a range) ∙ ap (λ text. shape_at (words text)) same ∙ shape-answer_text b range'))
      same;
  no_refusal = λ a refusal range same.
      let none : shape a ≡ 52 =
      sym (shape-answer_text a range) ∙ ap (λ text. shape_at (words text)) same
      ∙ ap shape_at (words-refusal_text refusal) in
      absurd (omega (arith, shape-le a, none));
}
