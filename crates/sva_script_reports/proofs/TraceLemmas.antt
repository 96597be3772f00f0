-- A trace, line by line and piece by piece.
use Rattle.std.proofs.Common.{◌≡◌, ◌∙◌, ap, refl, subst, sym, arith, ℕ, suc, ◌+◌, ◌<◌, ◌==◌, Bool, true, false, ◌||◌, cond, List, [], ◌∷◌, ◌++◌}
use Rattle.std.proofs.Common.{append-nil, append_assoc, length, ltb, not, take, drop, Some, None, ◌≤◌}
use Rattle.std.specs.List.{enumerate_from, list_any, position, prefix_len}
use Rattle.std.proofs.lemmas.List.{length-append}
use Rattle.std.proofs.lemmas.List.Folds.{list_any-append}
use Rattle.std.proofs.lemmas.Bool.{eqb-true}
use Rattle.sva_grammar.specs.Grammar.{lines_of}
use Rattle.sva_grammar.specs.Places.{line_len}
use Rattle.sva_grammar.proofs.LineLemmas.{lines_of-first, lines_of-last}
use Rattle.sva_grammar.proofs.PlaceLemmas.{not_found}
use Rattle.sva_snapshot.specs.Explaining.{Explaining}
use Rattle.sva_script.proofs.ItemLemmas.{found_at}
use Rattle.sva_script.specs.Lines.{script_words}
use Rattle.sva_script_reports.specs.declared.rows.Style.{Style}
use Rattle.sva_script_reading.specs.Said.{Said}
use Rattle.sva_script_reading.specs.Begins.{lines_from}
use Rattle.sva_script_reports.specs.Traces.{NoEnd, Traced, Tracer, Traces, TracesLine, Tracing, end_of, end_outcome, end_said, then_said}
use Rattle.sva_script_reports.specs.Traces.{trace_from, trace_line, trace_more, trace_rest, trace_words}

-- ---- Lines

abbrev ends : ℕ → Bool
ends byte = byte == 10

pub none_of : (a b : Bool) → (a || b) ≡ false → (a ≡ false) × (b ≡ false)
none_of true b is = absurd (cc is)
none_of false b is = (refl, is)

line_len-at : (front more : List ℕ) → NoEnd front → line_len (front ++ 10 ∷ more) ≡ length front
line_len-at [] more none = refl
line_len-at (byte ∷ front) more none =
    let parts = none_of (byte == 10) (list_any (λ b. b == 10) front) none in
    ap (λ t. cond t 0 (suc (line_len (front ++ 10 ∷ more)))) parts.0 ∙ ap suc (line_len-at front more parts.1)

line_len-none : (text : List ℕ) → NoEnd text → line_len text ≡ length text
line_len-none [] none = refl
line_len-none (byte ∷ text) none =
    let parts = none_of (byte == 10) (list_any (λ b. b == 10) text) none in
    ap (λ t. cond t 0 (suc (line_len text))) parts.0 ∙ ap suc (line_len-none text parts.1)

take_front : (front more : List ℕ) → take (length front) (front ++ more) ≡ front
take_front [] more = refl
take_front (byte ∷ front) more = ap (λ l. byte ∷ l) (take_front front more)

drop_front : (front more : List ℕ) → drop (suc (length front)) (front ++ 10 ∷ more) ≡ more
drop_front [] more = refl
drop_front (byte ∷ front) more = drop_front front more

-- an LF ends a line
pub line_at : (front more : List ℕ) → NoEnd front → lines_of (front ++ 10 ∷ more) ≡ front ∷ lines_of more
line_at front more none =
    let len = line_len-at front more none in
    let short : line_len (front ++ 10 ∷ more) < length (front ++ 10 ∷ more) = let sum = length-append front (10 ∷ more) in omega (arith, len, sum) in
    lines_of-first (front ++ 10 ∷ more) short
    ∙ (λ i. take (len i) (front ++ 10 ∷ more) ∷ lines_of (drop (suc (len i)) (front ++ 10 ∷ more)))
    ∙ (λ i. take_front front (10 ∷ more) i ∷ lines_of (drop_front front more i))

-- the last one may lack it
pub last_line : (text : List ℕ) → 0 < length text → NoEnd text → lines_of text ≡ text ∷ []
last_line text some none = lines_of-last text some (line_len-none text none)

pub no_end-both : (first second : List ℕ) → NoEnd first → NoEnd second → NoEnd (first ++ second)
no_end-both first second a b = list_any-append (λ byte. byte == 10) first second ∙ ap (λ t. t || list_any (λ byte. byte == 10) second) a ∙ b

-- ---- What is said

pub then_nothing : (said : Said) → then_said [] said ≡ said
then_nothing said = refl

pub then_both : (first second : List ℕ) (said : Said) → then_said first (then_said second said) ≡ then_said (first ++ second) said
then_both first second said = ap (λ text. record { text = text; outcome = said.outcome }) (sym (append_assoc first second said.text))

rest_of : (explained : Explaining) (old : Tracer) (line more : List ℕ) → NoEnd line
    → trace_rest explained old (line ++ 10 ∷ more)
    ≡ trace_more (λ next. trace_from explained old.style next (old.lines + 1) (lines_from (old.lines + 1 + 1) more))
    (trace_line explained old.style old.tracing (old.lines + 1) (script_words line))
unfolding trace_from
rest_of explained old line more none =
    ap (λ lines. trace_from explained old.style old.tracing old.lines (enumerate_from (old.lines + 1) lines)) (line_at line more none)

-- a line that was taken, and what follows it
pub line_taken : (explained : Explaining) (old new : Tracer) (line more before after : List ℕ) → NoEnd line → TracesLine explained old line new before after
    → trace_rest explained old (line ++ 10 ∷ more) ≡ then_said (trace_line explained old.style old.tracing (old.lines + 1) (script_words line)).1
    (trace_rest explained new more)
line_taken explained old new line more before after none taken =
    rest_of explained old line more none
    ∙ (λ i. then_said (trace_line explained old.style old.tracing (old.lines + 1) (script_words line)).1
    (trace_from explained (sym taken.0 i) (sym taken.2 i) (sym taken.1 i) (lines_from (sym taken.1 i + 1) more)))

-- the end, where no line is left, or one that lacks its LF
pub ended_here : (explained : Explaining) (old : Tracer) → trace_rest explained old [] ≡ end_said old.style old.tracing old.lines
unfolding trace_from
ended_here explained old = refl

pub ended_last : (explained : Explaining) (old new : Tracer) (line before after : List ℕ) → 0 < length line → NoEnd line
    → TracesLine explained old line new before after
    → trace_rest explained old line
    ≡ then_said (trace_line explained old.style old.tracing (old.lines + 1) (script_words line)).1 (end_said new.style new.tracing new.lines)
unfolding trace_from
ended_last explained old new line before after some none taken =
    ap (λ lines. trace_from explained old.style old.tracing old.lines (enumerate_from (old.lines + 1) lines)) (last_line line some none)
    ∙ (λ i. then_said (trace_line explained old.style old.tracing (old.lines + 1) (script_words line)).1
    (end_said (sym taken.0 i) (sym taken.2 i) (sym taken.1 i)))

-- ---- A piece

-- so far so much was said, and the rest is said of what is left
pub record TracedSoFar (explained : Explaining) (start now : Tracer) (held piece left rest : List ℕ) (before out : List ℕ) : Type 0 where
  pub text : List ℕ
  pub appended : out ≡ before ++ text
  pub whole : (more : List ℕ) → trace_rest explained start (held ++ (piece ++ more)) ≡ then_said text (trace_rest explained now (left ++ (rest ++ more)))
  pub no_end : NoEnd left

pub piece_start : (explained : Explaining) (start : Tracer) (held piece before : List ℕ) → NoEnd held
    → TracedSoFar explained start start held piece held piece before before
piece_start explained start held piece before none = record { text = []; appended = sym (append-nil before); whole = λ more. refl; no_end = none }

-- the next line ends in what is left
pub piece_line : (explained : Explaining) (start now next : Tracer) (held piece left rest front more before out new : List ℕ)
    → TracedSoFar explained start now held piece left rest before out → rest ≡ front ++ 10 ∷ more → NoEnd front
    → TracesLine explained now (left ++ front) next out new
    → TracedSoFar explained start next held piece [] more before new
piece_line explained start now next held piece left rest front more before out new so_far is none taken =
    let said = (trace_line explained now.style now.tracing (now.lines + 1) (script_words (left ++ front))).1 in
    record {
      text = so_far.text ++ said;
      appended = taken.3 ∙ ap (λ l. l ++ said) so_far.appended ∙ append_assoc before so_far.text said;
      whole = λ after.
          let line : left ++ (rest ++ after) ≡ (left ++ front) ++ 10 ∷ (more ++ after) =
          ap (λ l. left ++ (l ++ after)) is ∙ ap (λ l. left ++ l) (append_assoc front (10 ∷ more) after)
          ∙ sym (append_assoc left front (10 ∷ (more ++ after))) in
          so_far.whole after ∙ ap (λ l. then_said so_far.text (trace_rest explained now l)) line
          ∙ ap (then_said so_far.text) (line_taken explained now next (left ++ front) (more ++ after) out new (no_end-both left front so_far.no_end none) taken)
          ∙ then_both so_far.text said (trace_rest explained next (more ++ after));
      no_end = refl;
    }

-- ---- A line

says : (explained : Explaining) (style : Style) (tracing : Tracing) (line : ℕ) (words : List (List ℕ)) → (words ≡ [] → ⊥)
    → trace_line explained style tracing line words ≡ trace_words explained style tracing line words tracing.run
says explained style tracing line [] some = absurd (some refl)
says explained style tracing line (word ∷ words) some = refl

-- its words were taken
pub line_told : (explained : Explaining) (old mid new : Tracer) (line : List ℕ) (words : List (List ℕ)) (before after : List ℕ)
    → mid ≡ record { style = old.style; lines = old.lines + 1; tracing = old.tracing } → words ≡ script_words line → (words ≡ [] → ⊥)
    → Traces mid (trace_words explained mid.style mid.tracing mid.lines words mid.tracing.run) new before after
    → TracesLine explained old line new before after
line_told explained old mid new line words before after is same some traces =
    let told = subst (λ (m : Tracer). Traces m (trace_words explained m.style m.tracing m.lines words m.tracing.run) new before after) is traces in
    let all : trace_words explained old.style old.tracing (old.lines + 1) words old.tracing.run
    ≡ trace_line explained old.style old.tracing (old.lines + 1) (script_words line) =
    sym (says explained old.style old.tracing (old.lines + 1) words some) ∙ ap (trace_line explained old.style old.tracing (old.lines + 1)) same in
    (told.0, told.1, told.2 ∙ ap (λ (t : Traced). t.0) all, told.3 ∙ ap (λ (t : Traced). before ++ t.1) all)

-- ---- The end

pub end_here : (explained : Explaining) (old : Tracer) (held before after : List ℕ) → held ≡ [] → after ≡ before
    ++ end_of old.style old.tracing old.lines old.tracing.run
    → after ≡ before ++ (trace_rest explained old held).text
end_here explained old held before after none told = told ∙ ap (λ (said : Said). before ++ said.text)
    (sym (ap (trace_rest explained old) none ∙ ended_here explained old))

pub ends_here : (explained : Explaining) (old : Tracer) (held : List ℕ) → held ≡ [] → end_outcome old.tracing old.tracing.run ≡
    (trace_rest explained old held).outcome
ends_here explained old held none = ap (λ (said : Said). said.outcome) (sym (ap (trace_rest explained old) none ∙ ended_here explained old))

pub end_last : (explained : Explaining) (old new : Tracer) (line before mid after : List ℕ) → 0 < length line → NoEnd line
    → TracesLine explained old line new before mid
    → after ≡ mid ++ end_of new.style new.tracing new.lines new.tracing.run → after ≡ before ++ (trace_rest explained old line).text
end_last explained old new line before mid after some none taken told =
    let text = (trace_line explained old.style old.tracing (old.lines + 1) (script_words line)).1 in
    let end = end_of new.style new.tracing new.lines new.tracing.run in
    told ∙ ap (λ l. l ++ end) taken.3 ∙ append_assoc before text end
    ∙ ap (λ (said : Said). before ++ said.text) (sym (ended_last explained old new line before mid some none taken))

pub ends_last : (explained : Explaining) (old new : Tracer) (line before mid : List ℕ) → 0 < length line → NoEnd line
    → TracesLine explained old line new before mid
    → end_outcome new.tracing new.tracing.run ≡ (trace_rest explained old line).outcome
ends_last explained old new line before mid some none taken = ap (λ (said : Said). said.outcome)
    (sym (ended_last explained old new line before mid some none taken))

pub nothing_held : (held : List ℕ) → length held ≡ 0 → held ≡ []
nothing_held [] none = refl
nothing_held (byte ∷ held) none = absurd (omega (arith, none))

-- ---- The place of an LF

cut_by : (text : List ℕ) → prefix_len (λ byte. not (ends byte)) text < length text
    → (text ≡ take (prefix_len (λ byte. not (ends byte)) text) text ++ 10 ∷ drop (prefix_len (λ byte. not (ends byte)) text + 1) text)
    × NoEnd (take (prefix_len (λ byte. not (ends byte)) text) text)
cut_by [] within = absurd (omega (arith, within))
cut_by (byte ∷ text) within = by_byte (ends byte) refl within (cut_by text)
  where
    len : Bool → ℕ
    len test = cond (not test) (1 + prefix_len (λ b. not (ends b)) text) 0

    by_byte : (test : Bool) → ends byte ≡ test → len test < length (byte ∷ text)
        → (prefix_len (λ b. not (ends b)) text < length text
        → (text ≡ take (prefix_len (λ b. not (ends b)) text) text ++ 10 ∷ drop (prefix_len (λ b. not (ends b)) text + 1) text)
        × NoEnd (take (prefix_len (λ b. not (ends b)) text) text))
        → (byte ∷ text ≡ take (len test) (byte ∷ text) ++ 10 ∷ drop (len test + 1) (byte ∷ text)) × NoEnd (take (len test) (byte ∷ text))
    by_byte true is within later = let same : byte ≡ 10 = eqb-true byte 10 is in (ap (λ b. b ∷ text) same, refl)
    by_byte false is within later =
        let n = prefix_len (λ b. not (ends b)) text in
        let rest = later (omega (arith, within)) in
        let up : suc n ≡ 1 + n = omega arith in
        let next : suc (n + 1) ≡ suc n + 1 = omega arith in
        subst (λ k. (byte ∷ text ≡ take k (byte ∷ text) ++ 10 ∷ drop (k + 1) (byte ∷ text)) × NoEnd (take k (byte ∷ text))) up (
          ap (λ l. byte ∷ l) rest.0 ∙ ap (λ m. byte ∷ (take n text ++ 10 ∷ drop m (byte ∷ text))) next,
          ap (λ t. t || list_any (λ b. b == 10) (take n text)) is ∙ rest.1,
        )

-- where the first one is found
pub cut_at : (text : List ℕ) (end : ℕ) → position (λ byte. byte == 10) text ≡ Some end
    → (text ≡ take end text ++ 10 ∷ drop (end + 1) text) × NoEnd (take end text)
cut_at text end at =
    let parts = found_at (ltb (prefix_len (λ b. not (ends b)) text) (length text)) (prefix_len (λ b. not (ends b)) text) end at in
    let inside : prefix_len (λ b. not (ends b)) text < length text = grind (arith, parts.0) in
    subst (λ n. (text ≡ take n text ++ 10 ∷ drop (n + 1) text) × NoEnd (take n text)) parts.1 (cut_by text inside)

none_by : (text : List ℕ) → length text ≤ prefix_len (λ byte. not (ends byte)) text → NoEnd text
none_by [] past = refl
none_by (byte ∷ text) past = by_byte (ends byte) refl past (none_by text)
  where
    by_byte : (test : Bool) → ends byte ≡ test → length (byte ∷ text) ≤ cond (not test) (1 + prefix_len (λ b. not (ends b)) text) 0
        → (length text ≤ prefix_len (λ b. not (ends b)) text → NoEnd text)
        → (ends byte || list_any (λ b. b == 10) text) ≡ false
    by_byte true is past later = absurd (omega (arith, past))
    by_byte false is past later = ap (λ t. t || list_any (λ b. b == 10) text) is ∙ later (omega (arith, past))

-- where there is none
pub none_in : (text : List ℕ) → position (λ byte. byte == 10) text ≡ None → NoEnd text
none_in text none =
    let past = not_found (ltb (prefix_len (λ b. not (ends b)) text) (length text)) (prefix_len (λ b. not (ends b)) text) none in
    none_by text (grind (arith, past))
