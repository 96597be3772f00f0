-- The first line of a text, by the place of its LF.
use Rattle.std.proofs.Common.{◌≡◌, ◌∙◌, ap, arith, ℕ, suc, ◌+◌, ◌<◌, ◌≤◌, ◌==◌, List, [], ◌∷◌, Bool, true, false, cond, not, ltb, length}
use Rattle.std.proofs.Common.{take, drop, refl}
use Rattle.std.proofs.Common.{Some, None}
use Rattle.std.specs.List.{enumerate_from, position, prefix_len}
use Rattle.sva_grammar.specs.Grammar.{lines_of}
use Rattle.sva_grammar.specs.Places.{line_len}
use Rattle.sva_grammar.proofs.LineLemmas.{line_len-le, lines_of-first, lines_of-last}
use Rattle.sva_grammar.proofs.PlaceLemmas.{not_found}
use Rattle.sva_script.proofs.ItemLemmas.{found_at}
use Rattle.sva_script_reading.specs.Begins.{lines_from}

abbrev ends : ℕ → Bool
ends byte = byte == 10

step : (is_end : Bool) (len count : ℕ) → len ≡ count → cond is_end 0 (suc len) ≡ cond (not is_end) (1 + count) 0
step true len count same = refl
step false len count same = let next : suc len ≡ 1 + count = omega (arith, same) in next

-- how long the first line is
line_prefix : (text : List ℕ) → line_len text ≡ prefix_len (λ byte. not (ends byte)) text
line_prefix [] = refl
line_prefix (byte ∷ text) = step (ends byte) (line_len text) (prefix_len (λ b. not (ends b)) text) (line_prefix text)

-- an LF ends it
pub first_at : (text : List ℕ) (end : ℕ) → position ends text ≡ Some end → lines_of text ≡ take end text ∷ lines_of (drop (end + 1) text)
first_at text end at =
    let parts = found_at (ltb (prefix_len (λ b. not (ends b)) text) (length text)) (prefix_len (λ b. not (ends b)) text) end at in
    let len = line_prefix text ∙ parts.1 in
    let inside : prefix_len (λ b. not (ends b)) text < length text = grind (arith, parts.0) in
    let short : line_len text < length text = omega (arith, inside, line_prefix text) in
    let next : suc end ≡ end + 1 = omega arith in
    lines_of-first text short ∙ (λ i. take (len i) text ∷ lines_of (drop (suc (len i)) text)) ∙ ap (λ n. take end text ∷ lines_of (drop n text)) next

-- the text ends it
pub first_of_all : (text : List ℕ) → 0 < length text → position ends text ≡ None → lines_of text ≡ text ∷ []
first_of_all text some none =
    let past = not_found (ltb (prefix_len (λ b. not (ends b)) text) (length text)) (prefix_len (λ b. not (ends b)) text) none in
    let long : length text ≤ prefix_len (λ b. not (ends b)) text = grind (arith, past) in
    lines_of-last text some (omega (arith, long, line_prefix text, line_len-le text))

-- how many lines there are, by their numbers
pub count_from : (n : ℕ) (lines : List (List ℕ)) → length (enumerate_from n lines) ≡ length lines
count_from n [] = refl
count_from n (line ∷ lines) = ap suc (count_from (n + 1) lines)

-- one is taken off
pub one_less : (n m line : ℕ) (text rest first : List ℕ) → lines_from n text ≡ (line, first) ∷ lines_from m rest
    → length (lines_of text) ≡ 1 + length (lines_of rest)
one_less n m line text rest first is =
    let both : length (lines_from n text) ≡ suc (length (lines_from m rest)) = ap length is in
    omega (arith, both, count_from n (lines_of text), count_from m (lines_of rest))
