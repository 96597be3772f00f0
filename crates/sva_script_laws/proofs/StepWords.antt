-- The words of a scenario's step, as a script reads them: each stands at its place as it is.
use Rattle.std.proofs.Common.{◌≡◌, ◌∙◌, ap, cond, refl, subst, sym, ℕ, ◌==◌, ◌||◌, suc, Bool, true, false, List, [], ◌∷◌, length, Some, None, arith}
use Rattle.std.specs.Prelude.{is_ok, Result, Ok, Err}
use Rattle.std.specs.Str.{bytes_eq}
use Rattle.std.proofs.lemmas.Bool.{eqb-true}
use Rattle.std.proofs.lemmas.Bool.Decides.{nat_tests}
use Rattle.std.proofs.lemmas.Slice.Eq.{bytes_eq-Decides}
use Rattle.sva_step.specs.declared.steps.Step.{Step}
use Rattle.sva_grammar.specs.declared.faults.Cause.{Cause}
use Rattle.sva_grammar.specs.declared.faults.Cause.TheVariants.{UnknownStep, WordCount}
use Rattle.sva_grammar.specs.Grammar.{◌>>=◌, access, flags, group, has_words, has_words_or, is_last, number, one_number, vector, verdict, word}
use Rattle.sva_grammar.specs.Grammar.{step_of, host_step, endpoint_step, space_step, drop_step, map_step, unmap_step, unmapr_step, look_step, bearer_step}
use Rattle.sva_grammar.specs.Grammar.{bind_step, unbind_step, advance_step, pump_step, serve_step, reset_step, take_step, answer_step}
use Rattle.sva_grammar.specs.Grammar.{ask_step, use_step, end_step, evict_step, fault_step, finish_step, quit_step, deliver_step}
use Rattle.sva_script.specs.declared.places.Field.{Field}
use Rattle.sva_script.specs.declared.places.Field.TheVariants.{Endpoint, Worker, Space, Binding, Pasid, Page, Frame, Slot, Group, Itags, Message}
use Rattle.sva_script.specs.declared.places.Field.TheVariants.{Count, MaybeCount, Order, Access, Flags, Last, Verdict}
use Rattle.sva_script.specs.Lines.{name_before}
use Rattle.sva_script.specs.Places.{places_of, places_of_endpoint, places_of_host}
use Rattle.sva_script.specs.Resolve.{is_plain}

-- ---- What was read in parts

pub part : {A B : Type 0} (read : Result A Cause) (next : A → Result B Cause) (value : B) → (read >>= next) ≡ Ok value
    → (found : A) × (read ≡ Ok found) × (next found ≡ Ok value)
part (Ok found) next value is = (found, refl, is)
part (Err cause) next value is = absurd (cc is)

counted : (test : Bool) (tested : Result (Unit {0}) Cause) → tested ≡ cond test (Ok tt) (Err WordCount) → tested ≡ Ok tt → test ≡ true
counted true tested by is = refl
counted false tested by is = absurd (cc (by, is))

length_is : (count : ℕ) (words : List (List ℕ)) → has_words count words ≡ Ok tt → length words ≡ count
length_is count words is = eqb-true (length words) count (counted (length words == count) (has_words count words) refl is)

-- ---- Words at their places

-- each word is one that a scenario has at its place, and the last may be missing where it may
abbrev pub Suits : List Field → List (List ℕ) → Type 0
Suits [] [] = Unit {0}
Suits (place ∷ places) (word ∷ words) = (is_plain place word ≡ true) × Suits places words
Suits (MaybeCount ∷ []) [] = Unit {0}
Suits _ _ = ⊥

-- ---- Lines of so many words

by_one : (P : List (List ℕ) → Type 0) (words : List (List ℕ)) → has_words 1 words ≡ Ok tt → ((a : List ℕ) → P (a ∷ [])) → P words
by_one P (a ∷ []) is holds = holds a
by_one P [] is holds = absurd (cc is)
by_one P (a ∷ b ∷ rest) is holds = absurd (omega (arith, length_is 1 (a ∷ b ∷ rest) is))

by_two : (P : List (List ℕ) → Type 0) (words : List (List ℕ)) → has_words 2 words ≡ Ok tt → ((a b : List ℕ) → P (a ∷ b ∷ [])) → P words
by_two P (a ∷ b ∷ []) is holds = holds a b
by_two P [] is holds = absurd (cc is)
by_two P (a ∷ []) is holds = absurd (cc is)
by_two P (a ∷ b ∷ c ∷ rest) is holds = absurd (omega (arith, length_is 2 (a ∷ b ∷ c ∷ rest) is))

by_three : (P : List (List ℕ) → Type 0) (words : List (List ℕ)) → has_words 3 words ≡ Ok tt → ((a b c : List ℕ) → P (a ∷ b ∷ c ∷ [])) → P words
by_three P (a ∷ b ∷ c ∷ []) is holds = holds a b c
by_three P [] is holds = absurd (cc is)
by_three P (a ∷ []) is holds = absurd (cc is)
by_three P (a ∷ b ∷ []) is holds = absurd (cc is)
by_three P (a ∷ b ∷ c ∷ d ∷ rest) is holds = absurd (omega (arith, length_is 3 (a ∷ b ∷ c ∷ d ∷ rest) is))

pub by_four : (P : List (List ℕ) → Type 0) (words : List (List ℕ)) → has_words 4 words ≡ Ok tt → ((a b c d : List ℕ) → P (a ∷ b ∷ c ∷ d ∷ [])) → P words
by_four P (a ∷ b ∷ c ∷ d ∷ []) is holds = holds a b c d
by_four P [] is holds = absurd (cc is)
by_four P (a ∷ []) is holds = absurd (cc is)
by_four P (a ∷ b ∷ []) is holds = absurd (cc is)
by_four P (a ∷ b ∷ c ∷ []) is holds = absurd (cc is)
by_four P (a ∷ b ∷ c ∷ d ∷ e ∷ rest) is holds = absurd (omega (arith, length_is 4 (a ∷ b ∷ c ∷ d ∷ e ∷ rest) is))

by_five : (P : List (List ℕ) → Type 0) (words : List (List ℕ)) → has_words 5 words ≡ Ok tt → ((a b c d e : List ℕ) → P (a ∷ b ∷ c ∷ d ∷ e ∷ [])) → P words
by_five P (a ∷ b ∷ c ∷ d ∷ e ∷ []) is holds = holds a b c d e
by_five P [] is holds = absurd (cc is)
by_five P (a ∷ []) is holds = absurd (cc is)
by_five P (a ∷ b ∷ []) is holds = absurd (cc is)
by_five P (a ∷ b ∷ c ∷ []) is holds = absurd (cc is)
by_five P (a ∷ b ∷ c ∷ d ∷ []) is holds = absurd (cc is)
by_five P (a ∷ b ∷ c ∷ d ∷ e ∷ f ∷ rest) is holds = absurd (omega (arith, length_is 5 (a ∷ b ∷ c ∷ d ∷ e ∷ f ∷ rest) is))

by_seven : (P : List (List ℕ) → Type 0) (words : List (List ℕ)) → has_words 7 words ≡ Ok tt
    → ((a b c d e f g : List ℕ) → P (a ∷ b ∷ c ∷ d ∷ e ∷ f ∷ g ∷ [])) → P words
by_seven P (a ∷ b ∷ c ∷ d ∷ e ∷ f ∷ g ∷ []) is holds = holds a b c d e f g
by_seven P [] is holds = absurd (cc is)
by_seven P (a ∷ []) is holds = absurd (cc is)
by_seven P (a ∷ b ∷ []) is holds = absurd (cc is)
by_seven P (a ∷ b ∷ c ∷ []) is holds = absurd (cc is)
by_seven P (a ∷ b ∷ c ∷ d ∷ []) is holds = absurd (cc is)
by_seven P (a ∷ b ∷ c ∷ d ∷ e ∷ []) is holds = absurd (cc is)
by_seven P (a ∷ b ∷ c ∷ d ∷ e ∷ f ∷ []) is holds = absurd (cc is)
by_seven P (a ∷ b ∷ c ∷ d ∷ e ∷ f ∷ g ∷ h ∷ rest) is holds = absurd (omega (arith, length_is 7 (a ∷ b ∷ c ∷ d ∷ e ∷ f ∷ g ∷ h ∷ rest) is))

by_three_or_four : (P : List (List ℕ) → Type 0) (words : List (List ℕ)) → has_words_or 3 4 words ≡ Ok tt → ((a b c : List ℕ) → P (a ∷ b ∷ c ∷ []))
    → ((a b c d : List ℕ) → P (a ∷ b ∷ c ∷ d ∷ [])) → P words
by_three_or_four P (a ∷ b ∷ c ∷ []) is three four = three a b c
by_three_or_four P (a ∷ b ∷ c ∷ d ∷ []) is three four = four a b c d
by_three_or_four P [] is three four = absurd (cc is)
by_three_or_four P (a ∷ []) is three four = absurd (cc is)
by_three_or_four P (a ∷ b ∷ []) is three four = absurd (cc is)
by_three_or_four P (a ∷ b ∷ c ∷ d ∷ e ∷ rest) is three four = absurd (too_many (length rest) (counted _ (has_words_or 3 4 (a ∷ b ∷ c ∷ d ∷ e ∷ rest)) refl is))
  where
    too_many : (more : ℕ) → (suc (suc (suc (suc (suc more)))) == 3 || suc (suc (suc (suc (suc more)))) == 4) ≡ true → ⊥
    too_many more is = grind (arith, nat_tests)

-- ---- The words of each step

-- the words behind the first are those of these places
abbrev pub Behind : List Field → List (List ℕ) → Type 0
Behind places [] = Unit {0}
Behind places (first ∷ words) = Suits places words

-- a line that is read as a step has them
abbrev Reads : (List (List ℕ) → Result Step Cause) → List Field → Type 0
Reads read places = (words : List (List ℕ)) (step : Step) → read words ≡ Ok step → Behind places words

one_word : (place : Field) → ((word : List ℕ) → is_plain place word ≡ is_ok (number word)) → (words : List (List ℕ)) (value : ℕ)
    → one_number words ≡ Ok value → Behind (place ∷ []) words
unfolding one_number
one_word place plain words value is =
    by_two (λ ws. one_number ws ≡ Ok value → Behind (place ∷ []) ws) words (part (has_words 2 words) _ value is).1
    (λ a b read. (plain b ∙ ap is_ok read, tt)) is

space_reads : Reads space_step []
unfolding space_step
space_reads words step is =
    by_one (λ ws. space_step ws ≡ Ok step → Behind [] ws) words (part (has_words 1 words) _ step is).1 (λ a read. tt) is

drop_reads : Reads drop_step (Space ∷ [])
unfolding drop_step
drop_reads words step is = let read = part (one_number words) _ step is in one_word Space (λ w. refl) words read.0 read.1

map_reads : Reads map_step (Space ∷ Page ∷ Access ∷ [])
unfolding map_step
map_reads words step is =
    by_four (λ ws. map_step ws ≡ Ok step → Behind (Space ∷ Page ∷ Access ∷ []) ws) words (part (has_words 4 words) _ step is).1
    (λ a b c d read.
    let first = part (number b) _ step read in
    let second = part (number c) _ step first.2 in
    let third = part (access d) _ step second.2 in
    (ap is_ok first.1, (ap is_ok second.1, (ap is_ok third.1, tt)))) is

unmap_reads : Reads unmap_step (Space ∷ Page ∷ MaybeCount ∷ [])
unfolding unmap_step
unmap_reads words step is =
    by_three_or_four (λ ws. unmap_step ws ≡ Ok step → Behind (Space ∷ Page ∷ MaybeCount ∷ []) ws) words (part (has_words_or 3 4 words) _ step is).1
    (λ a b c read.
    let first = part (number b) _ step read in
    let second = part (number c) _ step first.2 in
    (ap is_ok first.1, (ap is_ok second.1, tt)))
    (λ a b c d read.
    let first = part (number b) _ step read in
    let second = part (number c) _ step first.2 in
    let third = part (number d) _ step second.2 in
    (ap is_ok first.1, (ap is_ok second.1, (ap is_ok third.1, tt)))) is

unmapr_reads : Reads unmapr_step (Space ∷ Page ∷ Order ∷ [])
unfolding unmapr_step
unmapr_reads words step is =
    by_four (λ ws. unmapr_step ws ≡ Ok step → Behind (Space ∷ Page ∷ Order ∷ []) ws) words (part (has_words 4 words) _ step is).1
    (λ a b c d read.
    let first = part (number b) _ step read in
    let second = part (number c) _ step first.2 in
    let third = part (number d) _ step second.2 in
    (ap is_ok first.1, (ap is_ok second.1, (ap is_ok third.1, tt)))) is

look_reads : Reads look_step (Frame ∷ [])
unfolding look_step
look_reads words step is = let read = part (one_number words) _ step is in one_word Frame (λ w. refl) words read.0 read.1

bearer_reads : Reads bearer_step (Pasid ∷ [])
unfolding bearer_step
bearer_reads words step is = let read = part (one_number words) _ step is in one_word Pasid (λ w. refl) words read.0 read.1

bind_reads : Reads bind_step (Endpoint ∷ Space ∷ [])
unfolding bind_step
bind_reads words step is =
    by_three (λ ws. bind_step ws ≡ Ok step → Behind (Endpoint ∷ Space ∷ []) ws) words (part (has_words 3 words) _ step is).1
    (λ a b c read.
    let first = part (number b) _ step read in
    let second = part (number c) _ step first.2 in
    (ap is_ok first.1, (ap is_ok second.1, tt))) is

unbind_reads : Reads unbind_step (Binding ∷ [])
unfolding unbind_step
unbind_reads words step is = let read = part (one_number words) _ step is in one_word Binding (λ w. refl) words read.0 read.1

advance_reads : Reads advance_step (Binding ∷ [])
unfolding advance_step
advance_reads words step is = let read = part (one_number words) _ step is in one_word Binding (λ w. refl) words read.0 read.1

pump_reads : Reads pump_step (Endpoint ∷ [])
unfolding pump_step
pump_reads words step is = let read = part (one_number words) _ step is in one_word Endpoint (λ w. refl) words read.0 read.1

serve_reads : Reads serve_step (Endpoint ∷ [])
unfolding serve_step
serve_reads words step is = let read = part (one_number words) _ step is in one_word Endpoint (λ w. refl) words read.0 read.1

reset_reads : Reads reset_step (Endpoint ∷ [])
unfolding reset_step
reset_reads words step is = let read = part (one_number words) _ step is in one_word Endpoint (λ w. refl) words read.0 read.1

take_reads : Reads take_step (Worker ∷ [])
unfolding take_step
take_reads words step is = let read = part (one_number words) _ step is in one_word Worker (λ w. refl) words read.0 read.1

answer_reads : Reads answer_step (Worker ∷ Verdict ∷ [])
unfolding answer_step
answer_reads words step is =
    by_three (λ ws. answer_step ws ≡ Ok step → Behind (Worker ∷ Verdict ∷ []) ws) words (part (has_words 3 words) _ step is).1
    (λ a b c read.
    let first = part (number b) _ step read in
    let second = part (verdict c) _ step first.2 in
    (ap is_ok first.1, (ap is_ok second.1, tt))) is

ask_reads : Reads ask_step (Endpoint ∷ Pasid ∷ Page ∷ [])
unfolding ask_step
ask_reads words step is =
    by_four (λ ws. ask_step ws ≡ Ok step → Behind (Endpoint ∷ Pasid ∷ Page ∷ []) ws) words (part (has_words 4 words) _ step is).1
    (λ a b c d read.
    let first = part (number b) _ step read in
    let second = part (number c) _ step first.2 in
    let third = part (number d) _ step second.2 in
    (ap is_ok first.1, (ap is_ok second.1, (ap is_ok third.1, tt)))) is

use_reads : Reads use_step (Endpoint ∷ Pasid ∷ Page ∷ Access ∷ [])
unfolding use_step
use_reads words step is =
    by_five (λ ws. use_step ws ≡ Ok step → Behind (Endpoint ∷ Pasid ∷ Page ∷ Access ∷ []) ws) words (part (has_words 5 words) _ step is).1
    (λ a b c d e read.
    let first = part (number b) _ step read in
    let second = part (number c) _ step first.2 in
    let third = part (number d) _ step second.2 in
    let fourth = part (access e) _ step third.2 in
    (ap is_ok first.1, (ap is_ok second.1, (ap is_ok third.1, (ap is_ok fourth.1, tt))))) is

end_reads : Reads end_step (Endpoint ∷ Slot ∷ [])
unfolding end_step
end_reads words step is =
    by_three (λ ws. end_step ws ≡ Ok step → Behind (Endpoint ∷ Slot ∷ []) ws) words (part (has_words 3 words) _ step is).1
    (λ a b c read.
    let first = part (number b) _ step read in
    let second = part (number c) _ step first.2 in
    (ap is_ok first.1, (ap is_ok second.1, tt))) is

evict_reads : Reads evict_step (Endpoint ∷ Pasid ∷ Page ∷ [])
unfolding evict_step
evict_reads words step is =
    by_four (λ ws. evict_step ws ≡ Ok step → Behind (Endpoint ∷ Pasid ∷ Page ∷ []) ws) words (part (has_words 4 words) _ step is).1
    (λ a b c d read.
    let first = part (number b) _ step read in
    let second = part (number c) _ step first.2 in
    let third = part (number d) _ step second.2 in
    (ap is_ok first.1, (ap is_ok second.1, (ap is_ok third.1, tt)))) is

fault_reads : Reads fault_step (Endpoint ∷ Pasid ∷ Page ∷ Flags ∷ Group ∷ Last ∷ [])
unfolding fault_step
fault_reads words step is =
    by_seven (λ ws. fault_step ws ≡ Ok step → Behind (Endpoint ∷ Pasid ∷ Page ∷ Flags ∷ Group ∷ Last ∷ []) ws) words
    (part (has_words 7 words) _ step is).1
    (λ a b c d e f g read.
    let first = part (number b) _ step read in
    let second = part (number c) _ step first.2 in
    let third = part (number d) _ step second.2 in
    let fourth = part (flags e) _ step third.2 in
    let fifth = part (group f) _ step fourth.2 in
    let sixth = part (is_last g) _ step fifth.2 in
    (ap is_ok first.1, (ap is_ok second.1, (ap is_ok third.1, (ap is_ok fourth.1, (ap is_ok fifth.1, (ap is_ok sixth.1, tt))))))) is

finish_reads : Reads finish_step (Endpoint ∷ Itags ∷ Count ∷ [])
unfolding finish_step
finish_reads words step is =
    by_four (λ ws. finish_step ws ≡ Ok step → Behind (Endpoint ∷ Itags ∷ Count ∷ []) ws) words (part (has_words 4 words) _ step is).1
    (λ a b c d read.
    let first = part (number b) _ step read in
    let second = part (vector c) _ step first.2 in
    let third = part (number d) _ step second.2 in
    (ap is_ok first.1, (ap is_ok second.1, (ap is_ok third.1, tt)))) is

quit_reads : Reads quit_step (Endpoint ∷ Pasid ∷ [])
unfolding quit_step
quit_reads words step is =
    by_three (λ ws. quit_step ws ≡ Ok step → Behind (Endpoint ∷ Pasid ∷ []) ws) words (part (has_words 3 words) _ step is).1
    (λ a b c read.
    let first = part (number b) _ step read in
    let second = part (number c) _ step first.2 in
    (ap is_ok first.1, (ap is_ok second.1, tt))) is

deliver_reads : Reads deliver_step (Message ∷ [])
unfolding deliver_step
deliver_reads words step is = let read = part (one_number words) _ step is in one_word Message (λ w. refl) words read.0 read.1

-- ---- By the first word

-- a word that begins no comment and is no arrow: it has a first byte, which is neither # (35) nor = (61)
abbrev pub Sound : List ℕ → Type 0
Sound [] = ⊥
Sound (byte ∷ word) = ((byte == 35) ≡ false) × ((byte == 61) ≡ false)

-- what a script makes of a line that has this first word and is read so
pub record Placed (first : List ℕ) (words : List (List ℕ)) : Type 0 where
  pub places : List Field
  pub placed : places_of first ≡ Some places
  pub behind : Behind places words
  pub sound : Sound first
  pub unnamed : name_before first ≡ None

PlacedIf : List ℕ → List (List ℕ) → Result Step Cause → Type 0
PlacedIf first words (Ok step) = Placed first words
PlacedIf first words (Err cause) = Unit {0}

read_so : (places : List Field) (name : List ℕ) (words : List (List ℕ)) (read : Result Step Cause)
    → places_of name ≡ Some places → Sound name → name_before name ≡ None → ((step : Step) → read ≡ Ok step → Behind places words) → PlacedIf name words read
unfolding PlacedIf
read_so places name words (Ok step) placed sound unnamed behind =
    record { places = places; placed = placed; behind = behind step refl; sound = sound; unnamed = unnamed }
read_so places name words (Err cause) placed sound unnamed behind = tt

by_test : (named : Bool) (name first : List ℕ) (words : List (List ℕ)) (a b : Result Step Cause) → bytes_eq first name ≡ named → PlacedIf name words a
    → PlacedIf first words b → PlacedIf first words (cond named a b)
by_test true name first words a b e p q = subst (λ w. PlacedIf w words a) (sym ((bytes_eq-Decides first name).0 e)) p
by_test false name first words a b e p q = q

by_name : (name first : List ℕ) (words : List (List ℕ)) (a b : Result Step Cause) → PlacedIf name words a → PlacedIf first words b
    → PlacedIf first words (cond (bytes_eq first name) a b)
by_name name first words a b p q = by_test _ name first words a b refl p q

no_name : (first : List ℕ) (words : List (List ℕ)) → PlacedIf first words (Err UnknownStep)
unfolding PlacedIf
no_name first words = tt

endpoint_placed : (words : List (List ℕ)) → PlacedIf (word 0 words) words (endpoint_step words)
unfolding endpoint_step places_of places_of_host places_of_endpoint
endpoint_placed words =
    by_name _ _ _ _ _ (read_so _ _ _ _ refl (refl, refl) refl (ask_reads words))
    (by_name _ _ _ _ _ (read_so _ _ _ _ refl (refl, refl) refl (use_reads words))
    (by_name _ _ _ _ _ (read_so _ _ _ _ refl (refl, refl) refl (end_reads words))
    (by_name _ _ _ _ _ (read_so _ _ _ _ refl (refl, refl) refl (evict_reads words))
    (by_name _ _ _ _ _ (read_so _ _ _ _ refl (refl, refl) refl (fault_reads words))
    (by_name _ _ _ _ _ (read_so _ _ _ _ refl (refl, refl) refl (finish_reads words))
    (by_name _ _ _ _ _ (read_so _ _ _ _ refl (refl, refl) refl (quit_reads words))
    (by_name _ _ _ _ _ (read_so _ _ _ _ refl (refl, refl) refl (deliver_reads words))
    (no_name _ _))))))))

host_placed : (words : List (List ℕ)) → PlacedIf (word 0 words) words (host_step words)
unfolding host_step places_of places_of_host
host_placed words =
    by_name _ _ _ _ _ (read_so _ _ _ _ refl (refl, refl) refl (bind_reads words))
    (by_name _ _ _ _ _ (read_so _ _ _ _ refl (refl, refl) refl (unbind_reads words))
    (by_name _ _ _ _ _ (read_so _ _ _ _ refl (refl, refl) refl (advance_reads words))
    (by_name _ _ _ _ _ (read_so _ _ _ _ refl (refl, refl) refl (pump_reads words))
    (by_name _ _ _ _ _ (read_so _ _ _ _ refl (refl, refl) refl (serve_reads words))
    (by_name _ _ _ _ _ (read_so _ _ _ _ refl (refl, refl) refl (reset_reads words))
    (by_name _ _ _ _ _ (read_so _ _ _ _ refl (refl, refl) refl (take_reads words))
    (by_name _ _ _ _ _ (read_so _ _ _ _ refl (refl, refl) refl (answer_reads words))
    (endpoint_placed words))))))))

step_placed : (words : List (List ℕ)) → PlacedIf (word 0 words) words (step_of words)
unfolding step_of places_of
step_placed words =
    by_name _ _ _ _ _ (read_so _ _ _ _ refl (refl, refl) refl (space_reads words))
    (by_name _ _ _ _ _ (read_so _ _ _ _ refl (refl, refl) refl (drop_reads words))
    (by_name _ _ _ _ _ (read_so _ _ _ _ refl (refl, refl) refl (map_reads words))
    (by_name _ _ _ _ _ (read_so _ _ _ _ refl (refl, refl) refl (unmap_reads words))
    (by_name _ _ _ _ _ (read_so _ _ _ _ refl (refl, refl) refl (unmapr_reads words))
    (by_name _ _ _ _ _ (read_so _ _ _ _ refl (refl, refl) refl (look_reads words))
    (by_name _ _ _ _ _ (read_so _ _ _ _ refl (refl, refl) refl (bearer_reads words))
    (host_placed words)))))))

-- a line that is read as a step
pub step_places : (words : List (List ℕ)) (step : Step) → step_of words ≡ Ok step → Placed (word 0 words) words
unfolding PlacedIf
step_places words step is = subst (λ read. PlacedIf (word 0 words) words read) is (step_placed words)
