-- A text that has no LF is its first line.
use Rattle.std.proofs.Common.{◌≡◌, ◌∙◌, ap, arith, sym, ℕ, suc, ◌<◌, ◌≤◌, ◌==◌, List, [], ◌∷◌, Bool, true, false, cond, length, refl, eqb, take, ◌||◌}
use Rattle.std.specs.Prelude.{Result, Err}
use Rattle.std.specs.List.{list_any}
use Rattle.std.proofs.Math.Seq.{take-length}
use Rattle.sva_grammar.specs.declared.faults.Cause.{Cause}
use Rattle.sva_grammar.specs.declared.faults.Cause.TheVariants.{BadWord}
use Rattle.sva_grammar.specs.Grammar.{single, words_of}
use Rattle.sva_grammar.specs.Places.{line_in, line_len}
use Rattle.sva_grammar.proofs.LineLemmas.{line_len-le}

has_end : (text : List ℕ) → line_len text < length text → list_any (λ byte. byte == 10) text ≡ true
has_end [] within = absurd (omega (arith, within))
has_end (byte ∷ text) within = by_byte (eqb byte 10) within (has_end text)
  where
    by_byte : (ends : Bool) → cond ends 0 (suc (line_len text)) < suc (length text)
        → (line_len text < length text → list_any (λ b. b == 10) text ≡ true) → (ends || list_any (λ b. b == 10) text) ≡ true
    by_byte true within rest = refl
    by_byte false within rest = rest (omega (arith, within))

has_none : (text : List ℕ) → length text ≤ line_len text → list_any (λ byte. byte == 10) text ≡ false
has_none [] past = refl
has_none (byte ∷ text) past = by_byte (eqb byte 10) past (has_none text)
  where
    by_byte : (ends : Bool) → suc (length text) ≤ cond ends 0 (suc (line_len text))
        → (length text ≤ line_len text → list_any (λ b. b == 10) text ≡ false) → (ends || list_any (λ b. b == 10) text) ≡ false
    by_byte true past rest = absurd (omega (arith, past))
    by_byte false past rest = rest (omega (arith, past))

-- a text whose first line is shorter isn't a line
pub not_single : {A : Type 0} (read : List (List ℕ) → Result A Cause) (text : List ℕ) → line_len text < length text → Err BadWord ≡ single read text
not_single read text within = sym (ap (λ t. cond t (Err BadWord) (read (words_of text))) (has_end text within))

-- and else it is one, and read
pub read_single : {A : Type 0} (read : List (List ℕ) → Result A Cause) (text line : List ℕ) (result : Result A Cause) → length text ≤ line_len text
    → line ≡ line_in text → result ≡ read (words_of line) → result ≡ single read text
read_single read text line result past is found =
    let long = line_len-le text in
    let len : line_len text ≡ length text = omega (arith, past, long) in
    let whole : line ≡ text = is ∙ ap (λ n. take n text) len ∙ take-length text in
    found ∙ ap (λ l. read (words_of l)) whole ∙ sym (ap (λ t. cond t (Err BadWord) (read (words_of text))) (has_none text past))
