-- What is said of a file that is wrong: each line of a report that is of a line of the text, behind the file's name, the number and the column.
use Rattle.std.specs.Prelude.{ℕ, ◌==◌, ◌+◌, ◌-◌, ◌++◌, nat_le, nat_lt, List, [], ◌∷◌, Option, Some, None, Result, Ok, Err, codes, if◌then◌else◌}
use Rattle.std.specs.Prelude.{decimal, drop, length, min, slice_index_or, take}
use Rattle.std.specs.List.{position}
use Rattle.std.specs.Str.{bytes_eq}
use Rattle.sva_grammar.specs.Grammar.{number}
use Rattle.sva_grammar.specs.declared.faults.Cause.{Cause}
use Rattle.sva_script_reading.specs.Begins.{Line, lines_from}
use Rattle.sva_located.specs.Columns.{begins, column_of, line_at}
use Rattle.sva_located.specs.Languages.{language_of, other_of}
use Rattle.sva_located.specs.declared.languages.Language.{Language}
use Rattle.sva_located.specs.declared.languages.Language.TheVariants as language

-- the name of a file as it is told: standard input has a name of its own
abbrev pub shown_name : List ℕ → List ℕ
shown_name name = if bytes_eq name (codes "-") then codes "<stdin>" else name

-- ---- A line of a report

-- what is told of the line of a number, which is 0 where it is told of the text
pub record Told : Type 0 where
  pub number : ℕ
  pub told : List ℕ

-- the digits of a number, without a colon (58) behind them
abbrev pub without_colon : List ℕ → List ℕ
without_colon word = if slice_index_or word (length word - 1) 0 == 58 then take (length word - 1) word else word

abbrev pub placed_by : Result ℕ Cause → (told : List ℕ) → Option Told
placed_by (Ok number) told = Some (record { number = number; told = told })
placed_by (Err cause) told = None

abbrev pub placed_at : (rest : List ℕ) → (space : ℕ) → Option Told
placed_at rest space = placed_by (number (without_colon (take space rest))) (drop (space + 1) rest)

abbrev pub placed_in : (rest : List ℕ) → Option ℕ → Option Told
placed_in rest None = None
placed_in rest (Some space) = placed_at rest space

abbrev pub placed_of : (line : List ℕ) → Option Told
placed_of line = if begins line (codes "line ") then placed_in (drop 5 line) (position (λ byte. byte == 32) (drop 5 line)) else None

-- ---- What is written of it

abbrev pub column_text : Option ℕ → List ℕ
column_text None = []
column_text (Some column) = codes ":" ++ decimal column

-- of what is told of the whole text there is no line
abbrev pub place_text : (text : List ℕ) → Told → List ℕ
place_text text told =
    if told.number == 0 then [] else
    codes ":" ++ decimal told.number ++ column_text (column_of told.told (line_at told.number text))

abbrev pub placed_text : (name text : List ℕ) → Told → List ℕ
placed_text name text told = name ++ place_text text told ++ codes ": error: " ++ told.told ++ codes "\n"

abbrev pub told_text : (name text : List ℕ) → (count : ℕ) → (line : List ℕ) → Option Told → List ℕ
told_text name text count line None = line ++ codes "\n"
told_text name text count line (Some told) = if nat_lt count 20 then placed_text name text told else []

-- a line of a report that is of none is told as it is, and of the others no more than 20, so many of which stand before it
abbrev pub line_text : (name text : List ℕ) → (count : ℕ) → (line : List ℕ) → List ℕ
line_text name text count line = told_text name text count line (placed_of line)

-- how many there are behind it
abbrev pub count_by : (count : ℕ) → Option Told → ℕ
count_by count None = count
count_by count (Some told) = min (count + 1) 18446744073709551615

abbrev pub count_behind : (count : ℕ) → (line : List ℕ) → ℕ
count_behind count line = count_by count (placed_of line)

-- last, how many aren't told
abbrev pub more_text : (name : List ℕ) → (count : ℕ) → List ℕ
more_text name count =
    if nat_le count 20 then [] else name ++ codes ": error: wrong lines behind these: " ++ decimal (count - 20) ++ codes "\n"

unfoldable pub told_lines : (name text : List ℕ) → (count : ℕ) → List Line → List ℕ
told_lines name text count [] = more_text name count
told_lines name text count (line ∷ lines) = line_text name text count line.1 ++ told_lines name text (count_behind count line.1) lines

abbrev pub lines_text : (name text report : List ℕ) → List ℕ
lines_text name text report = told_lines name text 0 (lines_from 1 report)

-- ---- Another language

abbrev pub language_words : Language → List ℕ
language_words language.Scenario = codes ":1:1: error: this is a scenario: svahost replay "
language_words language.Script = codes ":1:1: error: this is a script: svahost test "
language_words language.Race = codes ":1:1: error: this is a race: svahost explore "
language_words language.Driver = codes ":1:1: error: this is a driver: svahost judge "

abbrev pub other_text : (name : List ℕ) → Language → List ℕ
other_text name language = shown_name name ++ language_words language ++ name ++ codes "\n"

-- ---- The whole

abbrev pub located_by : (name text report : List ℕ) → (other : Option Language) → List ℕ
located_by name text report (Some other) = other_text name other
located_by name text report None = lines_text (shown_name name) text report

-- where the words are those of another language than was asked for, that is said alone
abbrev pub located : (wanted : Language) → (name text report : List ℕ) → List ℕ
located wanted name text report = located_by name text report (other_of wanted (language_of text))
