-- The words of a line, each where it begins and ends, and the first of them at places.
use Rattle.std.specs.Prelude.{ℕ, zero, suc, ◌==◌, ◌||◌, if◌then◌else◌, Bool, List, [], ◌∷◌, take}

-- a space (32) or an LF (10) ends a word
abbrev pub ends_word : ℕ → Bool
ends_word byte = byte == 32 || byte == 10

-- how long the first word of a text is, where the text may end it too
abbrev pub word_len : List ℕ → ℕ
word_len [] = 0
word_len (byte ∷ text) = if ends_word byte then 0 else suc (word_len text)

-- how long the first line of a text is: an LF ends it, or the text
abbrev pub line_len : List ℕ → ℕ
line_len [] = 0
line_len (byte ∷ text) = if byte == 10 then 0 else suc (line_len text)

-- the first line of a text
abbrev pub line_in : List ℕ → List ℕ
line_in text = take (line_len text) text

-- so many places: the first words, and the empty word where there is none
abbrev pub in_places : ℕ → List (List ℕ) → List (List ℕ)
in_places zero words = []
in_places (suc places) [] = [] ∷ in_places places []
in_places (suc places) (word ∷ words) = word ∷ in_places places words
