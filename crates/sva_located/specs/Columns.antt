-- Where in a line the word stands that is told wrong.
use Rattle.std.specs.Prelude.{ℕ, ◌==◌, ◌+◌, ◌++◌, ◌&&◌, nat_le, Bool, true, List, [], ◌∷◌, Option, Some, None, codes, if◌then◌else◌}
use Rattle.std.specs.Prelude.{length, take}
use Rattle.std.specs.List.{position}
use Rattle.std.specs.Str.{bytes_eq}
use Rattle.sva_script_reading.specs.Begins.{Line, lines_from}
use Rattle.sva_script_reading.specs.Faults.{shown_word}

-- the line of this number; where there is none, an empty one
unfoldable pub line_in : (wanted : ℕ) → List Line → List ℕ
line_in wanted [] = []
line_in wanted (line ∷ lines) = if line.0 == wanted then line.1 else line_in wanted lines

abbrev pub line_at : (wanted : ℕ) → (text : List ℕ) → List ℕ
line_at wanted text = line_in wanted (lines_from 1 text)

abbrev pub begins : (text with : List ℕ) → Bool
begins text with = nat_le (length with) (length text) && bytes_eq (take (length with) text) with

-- a line up to its first space (32)
abbrev pub word_to : List ℕ → Option ℕ → List ℕ
word_to line None = line
word_to line (Some end) = take end line

abbrev pub word_in : List ℕ → List ℕ
word_in line = word_to line (position (λ byte. byte == 32) line)

-- a word as it is told
abbrev pub quoted : List ℕ → List ℕ
quoted word = codes "'" ++ shown_word word ++ codes "': "

-- does a word begin here, and is it the one that is told?
abbrev pub is_told : (told : List ℕ) → (begins_word : Bool) → (rest : List ℕ) → Bool
is_told told begins_word rest = begins_word && begins told (quoted (word_in rest))

abbrev pub column_if : Bool → ℕ → List ℕ
column_if is_one column = if is_one then column ∷ [] else []

-- the columns at which it begins, behind so many bytes of the line
unfoldable pub columns_from : (told : List ℕ) → (before : ℕ) → (begins_word : Bool) → (rest : List ℕ) → List ℕ
columns_from told before begins_word [] = []
columns_from told before begins_word (byte ∷ rest) =
    column_if (is_told told begins_word (byte ∷ rest)) (before + 1) ++ columns_from told (before + 1) (byte == 32) rest

abbrev pub only : List ℕ → Option ℕ
only (column ∷ []) = Some column
only columns = None

-- where a line ends too early, behind its last byte; else where the word begins that is told, if it stands there once
abbrev pub column_of : (told line : List ℕ) → Option ℕ
column_of told line =
    if begins told (codes "end of line: ") then Some (length line + 1) else only (columns_from told 0 true line)
