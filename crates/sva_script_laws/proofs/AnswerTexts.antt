-- The texts of answers and counts have no line end.
use Rattle.std.proofs.Common.{◌≡◌, ◌∙◌, ap, cond, refl, arith, ℕ, zero, suc, ◌+◌, ◌/◌, ◌%◌, ◌==◌, ◌||◌, Bool, true, false, List, [], ◌∷◌, codes, decimal}
use Rattle.std.specs.Prelude.{◌++◌, Result, Ok, Err, nat_lt}
use Rattle.std.specs.Fmt.{digit_glyph, digits, digits_onto}
use Rattle.std.specs.List.{list_any}
use Rattle.std.proofs.lemmas.Bool.Decides.{nat_tests}
use Rattle.sva_step.specs.declared.answers.Answer.{Answer}
use Rattle.sva_step.specs.declared.answers.Answer.TheVariants as answer
use Rattle.sva_step.specs.declared.refusals.Refusal.{Refusal}
use Rattle.sva_step.specs.declared.refusals.Refusal.TheVariants as refusal
use Rattle.sva_step.specs.Refusals.{name_of, number_of}
use Rattle.sva_step.specs.Texts.{answer_text, frames_text}
use Rattle.sva_model.specs.Wire.{Wire}
use Rattle.sva_grammar.specs.Replies.{reply_text}
use Rattle.sva_reports.specs.Counts.{counts_at}
use Rattle.sva_script_reports.specs.Traces.{NoEnd}
use Rattle.sva_script_reports.proofs.TraceLemmas.{no_end-both}

-- ---- Numbers

glyph_clean : (digit : ℕ) → (digit_glyph false digit == 10) ≡ false
glyph_clean digit = by_test (nat_lt digit 10)
  where
    by_test : (test : Bool) → (cond test (48 + digit) (87 + digit) == 10) ≡ false
    by_test true = grind (arith, nat_tests)
    by_test false = grind (arith, nat_tests)

one_digit : (test : Bool) (digit : ℕ) (text more : List ℕ) → NoEnd (digit ∷ text) → NoEnd more → NoEnd (cond test (digit ∷ text) more)
one_digit true digit text more last next = last
one_digit false digit text more last next = next

digits_clean : (places number : ℕ) (text : List ℕ) → NoEnd text → NoEnd (digits_onto places 10 false number text)
digits_clean zero number text clean = clean
digits_clean (suc places) number text clean =
    let digit = digit_glyph false (number % 10) in
    let last : NoEnd (digit ∷ text) = ap (λ t. t || list_any (λ byte. byte == 10) text) (glyph_clean (number % 10)) ∙ clean in
    one_digit (number / 10 == 0) digit text (digits_onto places 10 false (number / 10) (digit ∷ text)) last
    (digits_clean places (number / 10) (digit ∷ text) last)

pub decimal_clean : (number : ℕ) → NoEnd (decimal number)
unfolding digits
decimal_clean number = digits_clean 64 number [] refl

-- ---- Answers

pub number_behind : (word : List ℕ) (number : ℕ) → NoEnd word → NoEnd (word ++ decimal number)
number_behind word number clean = no_end-both word (decimal number) clean (decimal_clean number)

frames_clean : (frames : List ℕ) → NoEnd (frames_text frames)
frames_clean [] = refl
frames_clean (frame ∷ frames) = no_end-both (codes " " ++ decimal frame) (frames_text frames) (number_behind (codes " ") frame refl) (frames_clean frames)

two_numbers : (first second : List ℕ) (one other : ℕ) → NoEnd first → NoEnd second → NoEnd (first ++ decimal one ++ second ++ decimal other)
two_numbers first second one other a b =
    number_behind (first ++ decimal one ++ second) other (no_end-both (first ++ decimal one) second (number_behind first one a) b)

three_numbers : (first second third : List ℕ) (a b c : ℕ) → NoEnd first → NoEnd second → NoEnd third
    → NoEnd (first ++ decimal a ++ second ++ decimal b ++ third ++ decimal c)
three_numbers first second third a b c one two three =
    number_behind (first ++ decimal a ++ second ++ decimal b ++ third) c
    (no_end-both (first ++ decimal a ++ second ++ decimal b) third (two_numbers first second a b one two) three)

answer_clean : (reply : Answer) → NoEnd (answer_text reply)
answer_clean (answer.Space space) = number_behind (codes "space ") space refl
answer_clean (answer.Frame frame) = number_behind (codes "frame ") frame refl
answer_clean (answer.FreeFrames frames) = no_end-both (codes "free") (frames_text frames) refl (frames_clean frames)
answer_clean (answer.WithheldFrames frames) = no_end-both (codes "withheld") (frames_text frames) refl (frames_clean frames)
answer_clean (answer.RangeFree frames) = number_behind (codes "range free ") frames refl
answer_clean (answer.RangeWithheld frames) = number_behind (codes "range withheld ") frames refl
answer_clean (answer.Binding binding pasid) = two_numbers (codes "binding ") (codes " pasid ") binding pasid refl refl
answer_clean (answer.Itag itag) = number_behind (codes "itag ") itag refl
answer_clean (answer.JobTaken binding group pages) =
    three_numbers (codes "job binding ") (codes " group ") (codes " pages ") binding group pages refl refl refl
answer_clean (answer.Success pages) = number_behind (codes "success ") pages refl
answer_clean (answer.Tag tag) = number_behind (codes "tag ") tag refl
answer_clean (answer.Use slot frame) = two_numbers (codes "use ") (codes " frame ") slot frame refl refl
answer_clean (answer.Group group) = number_behind (codes "group ") group refl
answer_clean (answer.Sent count) = number_behind (codes "sent ") count refl
answer_clean (answer.Freed count) = number_behind (codes "freed ") count refl
answer_clean (answer.Bearer space bindings) = two_numbers (codes "bearer ") (codes " bindings ") space bindings refl refl
answer_clean _ = refl

name_clean : (why : Refusal) → NoEnd (name_of why)
name_clean refusal.BadConfig = refl
name_clean _ = refl

pub reply_clean : (reply : Result Answer Refusal) → NoEnd (reply_text reply)
reply_clean (Ok reply) = answer_clean reply
reply_clean (Err why) =
    no_end-both (codes "refused " ++ decimal (number_of why) ++ codes " ") (name_of why)
    (no_end-both (codes "refused " ++ decimal (number_of why)) (codes " ") (number_behind (codes "refused ") (number_of why) refl) refl) (name_clean why)

-- ---- Counts

pub counts_clean : (wire : Wire) → NoEnd (counts_at wire)
counts_clean wire = three_numbers (codes "free ") (codes " mapped ") (codes " withheld ") _ _ _ refl refl refl
