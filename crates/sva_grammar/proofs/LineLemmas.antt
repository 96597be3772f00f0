-- Lemmas on the lines of a text.
use Rattle.std.proofs.Common.{◌≡◌, ◌<◌, ◌≤◌, ◌+◌, ◌-◌, ◌∙◌, ap, sym, arith, ℕ, suc, List, [], ◌∷◌, Bool, true, false, cond, length, take, drop, refl, eqb}
use Rattle.std.proofs.Common.{get_or}
use Rattle.std.specs.Prelude.{count_by}
use Rattle.std.specs.List.{onto_first}
use Rattle.std.proofs.lemmas.List.Sums.{sum_by-cons}
use Rattle.std.proofs.Math.ListN.{drop_of_length-le}
use Rattle.sva_grammar.specs.Grammar.{lines_of}
use Rattle.sva_grammar.specs.Places.{line_len}
use Rattle.sva_grammar.specs.Laws.{is_ended, LinesAreCounted}

-- ---- The first line

first_step : (byte : ℕ) (text : List ℕ) (t : Bool)
    → (line_len text < length text → lines_of text ≡ take (line_len text) text ∷ lines_of (drop (suc (line_len text)) text))
    → cond t 0 (suc (line_len text)) < suc (length text)
    → cond t ([] ∷ lines_of text) (onto_first byte (lines_of text))
    ≡ take (cond t 0 (suc (line_len text))) (byte ∷ text) ∷ lines_of (drop (suc (cond t 0 (suc (line_len text)))) (byte ∷ text))
first_step byte text true next h = refl
first_step byte text false next h = ap (onto_first byte) (next (omega arith))

pub lines_of-first : (text : List ℕ) → line_len text < length text → lines_of text ≡ take (line_len text) text ∷ lines_of (drop (suc (line_len text)) text)
lines_of-first [] h = absurd (omega arith)
lines_of-first (byte ∷ text) h = first_step byte text (eqb byte 10) (lines_of-first text) h

last_step : (byte : ℕ) (text : List ℕ) (t : Bool) → (0 < length text → line_len text ≡ length text → lines_of text ≡ text ∷ [])
    → cond t 0 (suc (line_len text)) ≡ suc (length text) → cond t ([] ∷ lines_of text) (onto_first byte (lines_of text)) ≡ (byte ∷ text) ∷ []
last_step byte text true next h = absurd (omega arith)
last_step byte [] false next h = refl
last_step byte (other ∷ text) false next h = ap (onto_first byte) (next (omega arith) (omega arith))

pub lines_of-last : (text : List ℕ) → 0 < length text → line_len text ≡ length text → lines_of text ≡ text ∷ []
lines_of-last [] some h = absurd (omega arith)
lines_of-last (byte ∷ text) some h = last_step byte text (eqb byte 10) (lines_of-last text) h

pub within : (t : Bool) (m n : ℕ) → m ≤ n → cond t 0 (suc m) ≤ suc n
within true m n h = omega arith
within false m n h = omega arith

pub line_len-le : (text : List ℕ) → line_len text ≤ length text
line_len-le [] = omega arith
line_len-le (byte ∷ text) = within (eqb byte 10) (line_len text) (length text) (line_len-le text)

-- ---- Lines are counted by their ends

some_line : (t : Bool) (byte : ℕ) (lines : List (List ℕ)) → 0 < length (cond t ([] ∷ lines) (onto_first byte lines))
some_line true byte lines = omega arith
some_line false byte [] = omega arith
some_line false byte (line ∷ lines) = omega arith

lines_of-some : (byte : ℕ) (text : List ℕ) → 0 < length (lines_of (byte ∷ text))
lines_of-some byte text = some_line (eqb byte 10) byte (lines_of text)

line_step : (t : Bool) (byte : ℕ) (lines : List (List ℕ)) (n : ℕ) → 0 < length lines → length lines ≡ n
    → length (cond t ([] ∷ lines) (onto_first byte lines)) ≡ cond t 1 0 + n
line_step true byte lines n some h = omega arith
line_step false byte [] n some h = absurd (omega arith)
line_step false byte (line ∷ lines) n some h = omega arith

last_line : (t : Bool) (byte : ℕ) → length (cond t ([] ∷ []) (onto_first byte [])) ≡ cond t 1 0 + 0 + cond t 0 1
last_line true byte = omega arith
last_line false byte = omega arith

pub lines_are_counted : LinesAreCounted
lines_are_counted [] = omega arith
lines_are_counted (byte ∷ []) = last_line (eqb byte 10) byte ∙ ap (λ n. n + cond (eqb byte 10) 0 1) (sym (sum_by-cons (λ b. cond (eqb b 10) 1 0) byte []))
lines_are_counted (byte ∷ next ∷ text) =
    let counted = line_step (eqb byte 10) byte (lines_of (next ∷ text)) _ (lines_of-some next text) (lines_are_counted (next ∷ text)) in
    let more = sum_by-cons (λ b. cond (eqb b 10) 1 0) byte (next ∷ text) in
    counted ∙ omega (arith, more)

-- the last byte of a text tells whether it is ended
pub ended_last : (text : List ℕ) → 0 < length text → eqb (get_or text (length text - 1) 0) 10 ≡ is_ended text
ended_last [] some = absurd (omega arith)
ended_last (byte ∷ []) some = refl
ended_last (byte ∷ next ∷ text) some =
    let last : suc (suc (length text)) - 1 ≡ suc (length text) = omega arith in
    let same : length text ≡ suc (length text) - 1 = omega arith in
    ap (λ i. eqb (get_or (byte ∷ next ∷ text) i 0) 10) last
    ∙ ap (λ i. eqb (get_or (next ∷ text) i 0) 10) same
    ∙ ended_last (next ∷ text) (omega arith)

-- all LFs were counted
pub ends-counted : (text : List ℕ) (ends i : ℕ) → length text ≤ i → ends + count_by (λ byte. eqb byte 10) (drop i text) ≡ count_by (λ byte. eqb byte 10) text
    → ends ≡ count_by (λ byte. eqb byte 10) text
ends-counted text ends i past counted =
    let none = ap (count_by (λ byte. eqb byte 10)) (drop_of_length-le text past) in
    omega (arith, counted, none)
