-- The words of a script's line, and its parts. This language is the project's own.
use Rattle.std.specs.Prelude.{ℕ, ◌+◌, ◌-◌, ◌==◌, Bool, false, if◌then◌else◌, List, [], ◌∷◌, ◌++◌, length, take, drop, codes, slice_index_or, position}
use Rattle.std.specs.Prelude.{Option, Some, None, is_some}
use Rattle.std.specs.Str.{bytes_eq}
use Rattle.sva_grammar.specs.Grammar.{words_of}

-- does the word begin a comment? Its first byte is # (35)
abbrev pub begins_comment : List ℕ → Bool
begins_comment [] = false
begins_comment (byte ∷ _) = byte == 35

-- a word by itself; between two spaces there is none
abbrev pub said_alone : List ℕ → List (List ℕ)
said_alone [] = []
said_alone (byte ∷ word) = (byte ∷ word) ∷ []

-- the words that are said: those before a comment
unfoldable pub said : List (List ℕ) → List (List ℕ)
said [] = []
said (word ∷ words) = if begins_comment word then [] else said_alone word ++ said words

-- the words of a line
abbrev pub script_words : List ℕ → List (List ℕ)
script_words line = said (words_of line)

-- the name that a word writes before a step: a colon (58) ends it
abbrev pub name_before : List ℕ → Option (List ℕ)
name_before word = if slice_index_or word (length word - 1) 0 == 58 then Some (take (length word - 1) word) else None

-- does the word stand between a step and its expected answer? It is `=>`
abbrev pub is_arrow : List ℕ → Bool
is_arrow word = bytes_eq word (codes "=>")

-- a line's parts: its name, the words of its step, and those of its expected answer, each where it is there
pub record Parts : Type 0 where
  pub name : Option (List ℕ)
  pub step : List (List ℕ)
  pub expected : Option (List (List ℕ))

-- at which of the line's words the step begins: behind the name, where there is one
abbrev pub step_begins : Parts → ℕ
step_begins parts = if is_some parts.name then 1 else 0

-- and the expected answer: behind the step and the arrow
abbrev pub expected_begins : Parts → ℕ
expected_begins parts = step_begins parts + length parts.step + 1

-- the words before an arrow, and those behind it
abbrev pub split_at : Option (List ℕ) → List (List ℕ) → Option ℕ → Parts
split_at name words None = record { name = name; step = words; expected = None }
split_at name words (Some arrow) = record { name = name; step = take arrow words; expected = Some (drop (arrow + 1) words) }

-- the parts of words that have no name
abbrev pub unnamed_parts : Option (List ℕ) → List (List ℕ) → Parts
unnamed_parts name words = split_at name words (position is_arrow words)

-- the parts of a line's words
abbrev pub parts_by : List (List ℕ) → Option (List ℕ) → Parts
parts_by words None = unnamed_parts None words
parts_by words (Some name) = unnamed_parts (Some name) (drop 1 words)

-- where the first word ends with a colon, it is a name
abbrev pub parts_of : List (List ℕ) → Parts
parts_of [] = unnamed_parts None []
parts_of (word ∷ words) = parts_by (word ∷ words) (name_before word)
