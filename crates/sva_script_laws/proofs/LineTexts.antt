-- The lines of a text that is written again.
use Rattle.std.proofs.Common.{◌≡◌, ◌∙◌, ap, cond, refl, sym, ℕ, ◌==◌, Bool, true, false, List, [], ◌∷◌}
use Rattle.std.specs.Prelude.{◌++◌}
use Rattle.std.specs.List.{onto_first}
use Rattle.std.proofs.lemmas.Bool.{eqb-true}
use Rattle.sva_grammar.specs.Grammar.{is_skipped, lines_of, word, words_of}
use Rattle.sva_grammar.specs.Laws.{is_ended}
use Rattle.sva_script.specs.Lines.{said, script_words}
use Rattle.sva_script_laws.specs.Plains.{whole}
use Rattle.sva_script_laws.proofs.Written.{first_of, written}

-- ---- Lines

some_by : (test : Bool) (byte : ℕ) (lines : List (List ℕ))
    → (line : List ℕ) × (more : List (List ℕ)) × (cond test ([] ∷ lines) (onto_first byte lines) ≡ line ∷ more)
some_by true byte lines = ([], lines, refl)
some_by false byte [] = (byte ∷ [], [], refl)
some_by false byte (line ∷ lines) = (byte ∷ line, lines, refl)

onto_written : (byte : ℕ) (lines : List (List ℕ)) (line : List ℕ) (more : List (List ℕ)) → lines ≡ line ∷ more
    → written (onto_first byte lines) ≡ byte ∷ written lines
onto_written byte lines line more is = ap (λ l. written (onto_first byte l)) is ∙ ap (λ l. byte ∷ written l) (sym is)

whole_cons : (test : Bool) (byte : ℕ) (rest : List ℕ)
    → byte ∷ cond test rest (rest ++ 10 ∷ []) ≡ cond test (byte ∷ rest) ((byte ∷ rest) ++ 10 ∷ [])
whole_cons true byte rest = refl
whole_cons false byte rest = refl

last_byte : (test : Bool) (byte : ℕ) → (byte == 10) ≡ test
    → written (cond test ([] ∷ []) (onto_first byte [])) ≡ cond test (byte ∷ []) ((byte ∷ []) ++ 10 ∷ [])
last_byte true byte is = ap (λ b. b ∷ []) (sym (eqb-true byte 10 is))
last_byte false byte is = refl

first_byte : (test : Bool) (byte next : ℕ) (text : List ℕ) → (byte == 10) ≡ test
    → written (cond test ([] ∷ lines_of (next ∷ text)) (onto_first byte (lines_of (next ∷ text)))) ≡ byte ∷ written (lines_of (next ∷ text))
first_byte true byte next text is = ap (λ b. b ∷ written (lines_of (next ∷ text))) (sym (eqb-true byte 10 is))
first_byte false byte next text is =
    let some = some_by (next == 10) next (lines_of text) in
    onto_written byte (lines_of (next ∷ text)) some.0 some.1 some.2

-- each with its end, they are the text, whose last line is ended
pub lines_whole : (text : List ℕ) → written (lines_of text) ≡ whole text
lines_whole [] = refl
lines_whole (byte ∷ []) = last_byte (byte == 10) byte refl
lines_whole (byte ∷ next ∷ text) =
    first_byte (byte == 10) byte next text refl ∙ ap (λ l. byte ∷ l) (lines_whole (next ∷ text)) ∙ whole_cons (is_ended (next ∷ text)) byte (next ∷ text)

-- ---- A line that is skipped

pub skipped_silent : (line : List ℕ) → is_skipped line ≡ true → script_words line ≡ []
unfolding said
skipped_silent [] is = refl
skipped_silent (byte ∷ line) is =
    let same : byte ≡ 35 = eqb-true byte 35 is in
    ap (λ b. script_words (b ∷ line)) same ∙ ap said ((first_of 35 (words_of line)).2)
