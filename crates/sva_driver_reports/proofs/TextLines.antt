-- No line of a text has a line end, nor has a word of one.
use Rattle.std.proofs.Common.{◌≡◌, ◌∙◌, ap, refl, ℕ, zero, suc, ◌==◌, ◌||◌, Bool, true, false, List, [], ◌∷◌, ◌++◌, drop, take, Option, Some, None}
use Rattle.std.specs.List.{list_any, onto_first, position}
use Rattle.std.specs.Prelude.{flat_map, if◌then◌else◌}
use Rattle.sva_grammar.specs.Grammar.{lines_of, words_of}
use Rattle.sva_script.specs.Lines.{begins_comment, is_arrow, name_before, parts_by, parts_of, said, said_alone, script_words, split_at}
use Rattle.sva_script_reading.specs.Begins.{joined_words}
use Rattle.sva_race_texts.specs.Words.{word_at}
use Rattle.sva_driver_reports.specs.Witnesses.{IsOneLine}
use Rattle.sva_driver_reports.proofs.OneLines.{both, none_of}

-- ---- Lines and words of a text

abbrev pub AreOneLines : List (List ℕ) → Type 0
AreOneLines [] = Unit {0}
AreOneLines (line ∷ lines) = IsOneLine line × AreOneLines lines

onto_one : (byte : ℕ) (lines : List (List ℕ)) → (byte == 10) ≡ false → AreOneLines lines → AreOneLines (onto_first byte lines)
onto_one byte [] other h = (ap (λ t. t || false) other, tt)
onto_one byte (line ∷ lines) other h = (ap (λ t. t || list_any (λ b. b == 10) line) other ∙ h.0, h.1)

pub lines_one : (text : List ℕ) → AreOneLines (lines_of text)
lines_one [] = tt
lines_one (byte ∷ text) = by_byte (byte == 10) refl (lines_one text)
  where
    by_byte : (test : Bool) → (byte == 10) ≡ test → AreOneLines (lines_of text)
        → AreOneLines (if test then [] ∷ lines_of text else onto_first byte (lines_of text))
    by_byte true is h = (refl, h)
    by_byte false is h = onto_one byte (lines_of text) is h

pub words_one : (line : List ℕ) → IsOneLine line → AreOneLines (words_of line)
words_one [] h = (refl, tt)
words_one (byte ∷ line) h =
    let parts = none_of (byte == 10) (list_any (λ b. b == 10) line) h in
    by_byte (byte == 32) parts.0 (words_one line parts.1)
  where
    by_byte : (test : Bool) → (byte == 10) ≡ false → AreOneLines (words_of line)
        → AreOneLines (if test then [] ∷ words_of line else onto_first byte (words_of line))
    by_byte true other h = (refl, h)
    by_byte false other h = onto_one byte (words_of line) other h

alone_one : (word : List ℕ) (rest : List (List ℕ)) → IsOneLine word → AreOneLines rest → AreOneLines (said_alone word ++ rest)
alone_one [] rest word h = h
alone_one (byte ∷ bytes) rest word h = (word, h)

pub said_one : (words : List (List ℕ)) → AreOneLines words → AreOneLines (said words)
unfolding said
said_one [] h = tt
said_one (word ∷ words) h = by_test (begins_comment word) (said_one words h.1)
  where
    by_test : (test : Bool) → AreOneLines (said words) → AreOneLines (if test then [] else said_alone word ++ said words)
    by_test true rest = tt
    by_test false rest = alone_one word (said words) h.0 rest

pub take_one : (count : ℕ) (words : List (List ℕ)) → AreOneLines words → AreOneLines (take count words)
take_one zero words h = tt
take_one (suc count) [] h = tt
take_one (suc count) (word ∷ words) h = (h.0, take_one count words h.1)

pub drop_one : (count : ℕ) (words : List (List ℕ)) → AreOneLines words → AreOneLines (drop count words)
drop_one zero words h = h
drop_one (suc count) [] h = tt
drop_one (suc count) (word ∷ words) h = drop_one count words h.1

split_one : (name : Option (List ℕ)) (words : List (List ℕ)) (arrow : Option ℕ) → AreOneLines words → AreOneLines (split_at name words arrow).step
split_one name words None h = h
split_one name words (Some arrow) h = take_one arrow words h

named_one : (words : List (List ℕ)) (name : Option (List ℕ)) → AreOneLines words → AreOneLines (parts_by words name).step
named_one words None h = split_one None words (position is_arrow words) h
named_one words (Some name) h = split_one (Some name) (drop 1 words) (position is_arrow (drop 1 words)) (drop_one 1 words h)

pub parts_one : (words : List (List ℕ)) → AreOneLines words → AreOneLines (parts_of words).step
parts_one [] h = split_one None [] (position is_arrow []) tt
parts_one (word ∷ words) h = named_one (word ∷ words) (name_before word) h

pub joined_one : (words : List (List ℕ)) → AreOneLines words → IsOneLine (joined_words words)
joined_one [] h = refl
joined_one (word ∷ words) h = both word (flat_map (λ next. 32 ∷ next) words) h.0 (more words h.1)
  where
    more : (words : List (List ℕ)) → AreOneLines words → IsOneLine (flat_map (λ next. 32 ∷ next) words)
    more [] h = refl
    more (word ∷ words) h = both (32 ∷ word) (flat_map (λ next. 32 ∷ next) words) h.0 (more words h.1)

pub word_one : (at : ℕ) (words : List (List ℕ)) → AreOneLines words → IsOneLine (word_at at words)
word_one zero [] h = refl
word_one (suc at) [] h = refl
word_one zero (word ∷ words) h = h.0
word_one (suc at) (word ∷ words) h = word_one at words h.1

pub script_one : (line : List ℕ) → IsOneLine line → AreOneLines (script_words line)
script_one line h = said_one (words_of line) (words_one line h)
