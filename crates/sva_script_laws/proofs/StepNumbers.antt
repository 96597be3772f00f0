-- A step that was read has a line: its numbers fit.
use Rattle.std.proofs.Common.{◌≡◌, ◌<◌, ◌^◌, ◌==◌, ◌||◌, ap, arith, cond, refl, subst, sym, ℕ, Bool, true, false, List}
use Rattle.std.proofs.Common.{length, Option, Some, None, IfSome, codes}
use Rattle.std.specs.Prelude.{Result, Ok, Err, option_map}
use Rattle.std.specs.Str.{bytes_eq}
use Rattle.std.proofs.lemmas.Option.{same_Some}
use Rattle.sva_step.specs.declared.steps.Step.{Step}
use Rattle.sva_step.specs.declared.steps.Step.TheVariants as step
use Rattle.sva_model.specs.Wire.{Wire}
use Rattle.sva_grammar.specs.declared.faults.Cause.{Cause}
use Rattle.sva_grammar.specs.declared.faults.Cause.TheVariants.{BadWord, UnknownStep}
use Rattle.sva_grammar.specs.Grammar.{◌>>=◌, access, flags, group, has_words, has_words_or, is_last, number, one_number}
use Rattle.sva_grammar.specs.Grammar.{vector, verdict, word, words_of}
use Rattle.sva_grammar.specs.Grammar.{step_of, host_step, endpoint_step, space_step, drop_step, map_step, unmap_step}
use Rattle.sva_grammar.specs.Grammar.{unmapr_step, look_step, bearer_step}
use Rattle.sva_grammar.specs.Grammar.{bind_step, unbind_step, advance_step, pump_step, serve_step, reset_step}
use Rattle.sva_grammar.specs.Grammar.{take_step, answer_step}
use Rattle.sva_grammar.specs.Grammar.{ask_step, use_step, end_step, evict_step, fault_step, finish_step, quit_step}
use Rattle.sva_grammar.specs.Grammar.{deliver_step}
use Rattle.sva_grammar.specs.Laws.{HasLine}
use Rattle.sva_grammar.proofs.LawLemmas.{numbers_are_decimal}
use Rattle.sva_grammar.proofs.VectorLemmas.{vectors_are_hexadecimal}
use Rattle.sva_script.specs.declared.faults.Wrong.{Wrong}
use Rattle.sva_script.specs.Lines.{parts_of, script_words}
use Rattle.sva_script.specs.Names.{Known}
use Rattle.sva_script_reading.specs.Lines.{LineRead, Plain, line_read}
use Rattle.sva_script_reading.specs.Messages.{link_of}
use Rattle.sva_script_laws.proofs.StepLines.{step_is}
use Rattle.sva_script_laws.proofs.StepWords.{part}
use Rattle.sva_script_laws.proofs.Written.{step_line_read}
use Rattle.sva_race_parts.specs.Reading as reading

-- ---- Words

small : (text : List ℕ) (value : ℕ) → number text ≡ Ok value → value < 2 ^ 64
small text value is = ((numbers_are_decimal text value).0 is).0

one_small : (words : List (List ℕ)) (value : ℕ) → one_number words ≡ Ok value → value < 2 ^ 64
unfolding one_number
one_small words value is = let count = part (has_words 2 words) _ value is in small (word 1 words) value count.2

vector_small : (text : List ℕ) (value : ℕ) → vector text ≡ Ok value → value < 2 ^ 32
vector_small text value is = ((vectors_are_hexadecimal text value).0 is).0

-- one page, or as many as are said
abbrev number_as : ℕ → Result ℕ Cause
number_as value = Ok value

same_number : (first second : ℕ) → number_as first ≡ Ok second → first ≡ second
same_number first second is = cc is

count_small : (test : Bool) (text : List ℕ) (value : ℕ) → cond test (number text) (Ok 1) ≡ Ok value → value < 2 ^ 64
count_small true text value is = small text value is
count_small false text value is = let same = same_number 1 value is in omega (arith, same)

-- the bits that are asked: one of them at least
abbrev bits_as : Bool × Bool → Result (Bool × Bool) Cause
bits_as bits = Ok bits

flags_some : (text : List ℕ) (bits : Bool × Bool) → flags text ≡ Ok bits → (bits.0 || bits.1) ≡ true
unfolding flags
flags_some text bits is = by_name (bytes_eq text (codes "r")) (bytes_eq text (codes "w")) (bytes_eq text (codes "rw")) is
  where
    some : Result (Bool × Bool) Cause → Bool
    some (Ok found) = found.0 || found.1
    some (Err cause) = true

    by_name : (r w rw : Bool)
        → cond r (bits_as (true, false)) (cond w (bits_as (false, true)) (cond rw (bits_as (true, true)) (Err BadWord))) ≡ bits_as bits
        → (bits.0 || bits.1) ≡ true
    by_name true w rw is = sym (ap some is)
    by_name false true rw is = sym (ap some is)
    by_name false false true is = sym (ap some is)
    by_name false false false is = absurd (cc is)

abbrev group_as : Option ℕ → Result (Option ℕ) Cause
group_as index = Ok index

same_group : (first second : Option ℕ) → group_as first ≡ Ok second → first ≡ second
same_group first second is = cc is

abbrev IsSmall : Option ℕ → Type 0
IsSmall index = IfSome index (λ i. i < 2 ^ 64)

group_small : (text : List ℕ) (index : Option ℕ) → group text ≡ Ok index → IsSmall index
unfolding group
group_small text index is = by_new (bytes_eq text (codes "new")) is
  where
    by_new : (new : Bool) → cond new (Ok None) (number text >>= λ i. Ok (Some i)) ≡ Ok index → IsSmall index
    by_new true is = subst (λ i. IsSmall i) (same_group None index is) tt
    by_new false is =
        let read = part (number text) (λ i. Ok (Some i)) index is in
        subst (λ i. IsSmall i) (same_group (Some read.0) index read.2) (small text read.0 read.1)

-- ---- Steps

abbrev step_as : Step → Result Step Cause
step_as it = Ok it

same_step : (first second : Step) → step_as first ≡ Ok second → first ≡ second
same_step first second is = cc is

-- what is read so has a line
abbrev Reads : (List (List ℕ) → Result Step Cause) → Type 0
Reads read = (words : List (List ℕ)) (it : Step) → read words ≡ Ok it → HasLine it

space_has : Reads space_step
unfolding space_step
space_has words it is = let count = part (has_words 1 words) _ it is in subst HasLine (same_step step.Space it count.2) tt

drop_has : Reads drop_step
unfolding drop_step
drop_has words it is =
    let read = part (one_number words) _ it is in
    subst HasLine (same_step (step.DropSpace read.0) it read.2) (one_small words read.0 read.1)

map_has : Reads map_step
unfolding map_step
map_has words it is =
    let count = part (has_words 4 words) _ it is in
    let first = part (number (word 1 words)) _ it count.2 in
    let second = part (number (word 2 words)) _ it first.2 in
    let third = part (access (word 3 words)) _ it second.2 in
    subst HasLine (same_step (step.Map first.0 second.0 third.0) it third.2)
    (small (word 1 words) first.0 first.1, small (word 2 words) second.0 second.1)

unmap_has : Reads unmap_step
unfolding unmap_step
unmap_has words it is =
    let count = part (has_words_or 3 4 words) _ it is in
    let first = part (number (word 1 words)) _ it count.2 in
    let second = part (number (word 2 words)) _ it first.2 in
    let third = part (cond (length words == 4) (number (word 3 words)) (Ok 1)) _ it second.2 in
    subst HasLine (same_step (step.Unmap first.0 second.0 third.0) it third.2) (
      small (word 1 words) first.0 first.1,
      small (word 2 words) second.0 second.1,
      count_small (length words == 4) (word 3 words) third.0 third.1,
    )

unmapr_has : Reads unmapr_step
unfolding unmapr_step
unmapr_has words it is =
    let count = part (has_words 4 words) _ it is in
    let first = part (number (word 1 words)) _ it count.2 in
    let second = part (number (word 2 words)) _ it first.2 in
    let third = part (number (word 3 words)) _ it second.2 in
    subst HasLine (same_step (step.UnmapRange first.0 second.0 third.0) it third.2)
    (small (word 1 words) first.0 first.1, small (word 2 words) second.0 second.1, small (word 3 words) third.0 third.1)

look_has : Reads look_step
unfolding look_step
look_has words it is =
    let read = part (one_number words) _ it is in
    subst HasLine (same_step (step.Look read.0) it read.2) (one_small words read.0 read.1)

bearer_has : Reads bearer_step
unfolding bearer_step
bearer_has words it is =
    let read = part (one_number words) _ it is in
    subst HasLine (same_step (step.Bearer read.0) it read.2) (one_small words read.0 read.1)

bind_has : Reads bind_step
unfolding bind_step
bind_has words it is =
    let count = part (has_words 3 words) _ it is in
    let first = part (number (word 1 words)) _ it count.2 in
    let second = part (number (word 2 words)) _ it first.2 in
    subst HasLine (same_step (step.Bind first.0 second.0) it second.2)
    (small (word 1 words) first.0 first.1, small (word 2 words) second.0 second.1)

unbind_has : Reads unbind_step
unfolding unbind_step
unbind_has words it is =
    let read = part (one_number words) _ it is in
    subst HasLine (same_step (step.Unbind read.0) it read.2) (one_small words read.0 read.1)

advance_has : Reads advance_step
unfolding advance_step
advance_has words it is =
    let read = part (one_number words) _ it is in
    subst HasLine (same_step (step.Advance read.0) it read.2) (one_small words read.0 read.1)

pump_has : Reads pump_step
unfolding pump_step
pump_has words it is =
    let read = part (one_number words) _ it is in
    subst HasLine (same_step (step.Pump read.0) it read.2) (one_small words read.0 read.1)

serve_has : Reads serve_step
unfolding serve_step
serve_has words it is =
    let read = part (one_number words) _ it is in
    subst HasLine (same_step (step.Serve read.0) it read.2) (one_small words read.0 read.1)

reset_has : Reads reset_step
unfolding reset_step
reset_has words it is =
    let read = part (one_number words) _ it is in
    subst HasLine (same_step (step.Reset read.0) it read.2) (one_small words read.0 read.1)

take_has : Reads take_step
unfolding take_step
take_has words it is =
    let read = part (one_number words) _ it is in
    subst HasLine (same_step (step.Take read.0) it read.2) (one_small words read.0 read.1)

answer_has : Reads answer_step
unfolding answer_step
answer_has words it is =
    let count = part (has_words 3 words) _ it is in
    let first = part (number (word 1 words)) _ it count.2 in
    let second = part (verdict (word 2 words)) _ it first.2 in
    subst HasLine (same_step (step.Reply first.0 second.0) it second.2) (small (word 1 words) first.0 first.1)

ask_has : Reads ask_step
unfolding ask_step
ask_has words it is =
    let count = part (has_words 4 words) _ it is in
    let first = part (number (word 1 words)) _ it count.2 in
    let second = part (number (word 2 words)) _ it first.2 in
    let third = part (number (word 3 words)) _ it second.2 in
    subst HasLine (same_step (step.Ask first.0 second.0 third.0) it third.2)
    (small (word 1 words) first.0 first.1, small (word 2 words) second.0 second.1, small (word 3 words) third.0 third.1)

use_has : Reads use_step
unfolding use_step
use_has words it is =
    let count = part (has_words 5 words) _ it is in
    let first = part (number (word 1 words)) _ it count.2 in
    let second = part (number (word 2 words)) _ it first.2 in
    let third = part (number (word 3 words)) _ it second.2 in
    let fourth = part (access (word 4 words)) _ it third.2 in
    subst HasLine (same_step (step.BeginUse first.0 second.0 third.0 fourth.0) it fourth.2)
    (small (word 1 words) first.0 first.1, small (word 2 words) second.0 second.1, small (word 3 words) third.0 third.1)

end_has : Reads end_step
unfolding end_step
end_has words it is =
    let count = part (has_words 3 words) _ it is in
    let first = part (number (word 1 words)) _ it count.2 in
    let second = part (number (word 2 words)) _ it first.2 in
    subst HasLine (same_step (step.EndUse first.0 second.0) it second.2)
    (small (word 1 words) first.0 first.1, small (word 2 words) second.0 second.1)

evict_has : Reads evict_step
unfolding evict_step
evict_has words it is =
    let count = part (has_words 4 words) _ it is in
    let first = part (number (word 1 words)) _ it count.2 in
    let second = part (number (word 2 words)) _ it first.2 in
    let third = part (number (word 3 words)) _ it second.2 in
    subst HasLine (same_step (step.Evict first.0 second.0 third.0) it third.2)
    (small (word 1 words) first.0 first.1, small (word 2 words) second.0 second.1, small (word 3 words) third.0 third.1)

fault_has : Reads fault_step
unfolding fault_step
fault_has words it is =
    let count = part (has_words 7 words) _ it is in
    let first = part (number (word 1 words)) _ it count.2 in
    let second = part (number (word 2 words)) _ it first.2 in
    let third = part (number (word 3 words)) _ it second.2 in
    let fourth = part (flags (word 4 words)) _ it third.2 in
    let fifth = part (group (word 5 words)) _ it fourth.2 in
    let sixth = part (is_last (word 6 words)) _ it fifth.2 in
    subst HasLine (same_step (step.Fault first.0 second.0 third.0 fourth.0.0 fourth.0.1 fifth.0 sixth.0) it sixth.2) (
      small (word 1 words) first.0 first.1,
      small (word 2 words) second.0 second.1,
      small (word 3 words) third.0 third.1,
      flags_some (word 4 words) fourth.0 fourth.1,
      group_small (word 5 words) fifth.0 fifth.1,
    )

finish_has : Reads finish_step
unfolding finish_step
finish_has words it is =
    let count = part (has_words 4 words) _ it is in
    let first = part (number (word 1 words)) _ it count.2 in
    let second = part (vector (word 2 words)) _ it first.2 in
    let third = part (number (word 3 words)) _ it second.2 in
    subst HasLine (same_step (step.Finish first.0 second.0 third.0) it third.2)
    (small (word 1 words) first.0 first.1, vector_small (word 2 words) second.0 second.1, small (word 3 words) third.0 third.1)

quit_has : Reads quit_step
unfolding quit_step
quit_has words it is =
    let count = part (has_words 3 words) _ it is in
    let first = part (number (word 1 words)) _ it count.2 in
    let second = part (number (word 2 words)) _ it first.2 in
    subst HasLine (same_step (step.Quit first.0 second.0) it second.2)
    (small (word 1 words) first.0 first.1, small (word 2 words) second.0 second.1)

deliver_has : Reads deliver_step
unfolding deliver_step
deliver_has words it is =
    let read = part (one_number words) _ it is in
    subst HasLine (same_step (step.Deliver read.0) it read.2) (one_small words read.0 read.1)

-- ---- By the first word

HasIf : Result Step Cause → Type 0
HasIf (Ok it) = HasLine it
HasIf (Err cause) = Unit {0}

has_so : (read : Result Step Cause) → ((it : Step) → read ≡ Ok it → HasLine it) → HasIf read
unfolding HasIf
has_so (Ok it) has = has it refl
has_so (Err cause) has = tt

by_test : (test : Bool) (first second : Result Step Cause) → HasIf first → HasIf second → HasIf (cond test first second)
by_test true first second one other = one
by_test false first second one other = other

no_name : HasIf (Err UnknownStep)
unfolding HasIf
no_name = tt

endpoint_has : (words : List (List ℕ)) → HasIf (endpoint_step words)
unfolding endpoint_step
endpoint_has words =
    by_test _ _ _ (has_so _ (ask_has words))
    (by_test _ _ _ (has_so _ (use_has words))
    (by_test _ _ _ (has_so _ (end_has words))
    (by_test _ _ _ (has_so _ (evict_has words))
    (by_test _ _ _ (has_so _ (fault_has words))
    (by_test _ _ _ (has_so _ (finish_has words))
    (by_test _ _ _ (has_so _ (quit_has words))
    (by_test _ _ _ (has_so _ (deliver_has words))
    no_name)))))))

host_has : (words : List (List ℕ)) → HasIf (host_step words)
unfolding host_step
host_has words =
    by_test _ _ _ (has_so _ (bind_has words))
    (by_test _ _ _ (has_so _ (unbind_has words))
    (by_test _ _ _ (has_so _ (advance_has words))
    (by_test _ _ _ (has_so _ (pump_has words))
    (by_test _ _ _ (has_so _ (serve_has words))
    (by_test _ _ _ (has_so _ (reset_has words))
    (by_test _ _ _ (has_so _ (take_has words))
    (by_test _ _ _ (has_so _ (answer_has words))
    (endpoint_has words))))))))

each_has : (words : List (List ℕ)) → HasIf (step_of words)
unfolding step_of
each_has words =
    by_test _ _ _ (has_so _ (space_has words))
    (by_test _ _ _ (has_so _ (drop_has words))
    (by_test _ _ _ (has_so _ (map_has words))
    (by_test _ _ _ (has_so _ (unmap_has words))
    (by_test _ _ _ (has_so _ (unmapr_has words))
    (by_test _ _ _ (has_so _ (look_has words))
    (by_test _ _ _ (has_so _ (bearer_has words))
    (host_has words)))))))

pub words_have : (words : List (List ℕ)) (it : Step) → step_of words ≡ Ok it → HasLine it
unfolding HasIf
words_have words it is = subst HasIf is (each_has words)

-- ---- The step of a text

abbrev step_in : Option Plain → Option Step
step_in read = option_map (λ (plain : Plain). plain.step) read

pub text_has : (known : Known) (wire : Wire) (text : List ℕ) (it : Step) → reading.step_of known wire text ≡ Some it
    → HasLine it
text_has known wire text it is = by_read (line_read known (link_of (Some wire)) (parts_of (script_words text))) refl is
  where
    by_plain : (read : LineRead) (plain : Option Plain)
        → line_read known (link_of (Some wire)) (parts_of (script_words text)) ≡ Ok read
        → read.step ≡ plain → step_in plain ≡ Some it → HasLine it
    by_plain read None reads none is = absurd (cc is)
    by_plain read (Some plain) reads some is =
        let writes = step_is known (link_of (Some wire)) (parts_of (script_words text)) read plain reads some in
        subst HasLine (same_Some plain.step it is)
        (words_have (words_of plain.text) plain.step (step_line_read plain.text plain.step writes).1)

    by_read : (read : Result LineRead Wrong)
        → line_read known (link_of (Some wire)) (parts_of (script_words text)) ≡ read
        → reading.step_read read ≡ Some it → HasLine it
    by_read (Err wrong) reads is = absurd (cc is)
    by_read (Ok read) reads is = by_plain read read.step reads refl is
