-- Which language a text is in.
use Rattle.std.specs.Prelude.{ℕ, ◌==◌, ◌-◌, ◌||◌, Bool, true, false, List, [], ◌∷◌, Option, Some, None, codes, if◌then◌else◌, length}
use Rattle.std.specs.Prelude.{slice_index_or}
use Rattle.std.specs.Str.{bytes_eq}
use Rattle.sva_script_reading.specs.Begins.{Line, lines_from}
use Rattle.sva_script.specs.Lines.{script_words}
use Rattle.sva_located.specs.declared.languages.Language.{Language}
use Rattle.sva_located.specs.declared.languages.Language.TheVariants as language
use Rattle.sva_located.specs.declared.languages.Own.{Own}
use Rattle.sva_located.specs.declared.languages.Own.TheVariants as own

-- ---- Words that tell

-- acts of a driver that are no step
abbrev pub is_of_drivers : List ℕ → Bool
is_of_drivers word =
    bytes_eq word (codes "pte") || bytes_eq word (codes "entry") || bytes_eq word (codes "start") || bytes_eq word (codes "submit")

-- steps that are no act of a driver
abbrev pub is_of_scripts : List ℕ → Bool
is_of_scripts word = bytes_eq word (codes "space") || bytes_eq word (codes "map") || bytes_eq word (codes "bind")

abbrev pub own_of : List ℕ → Option Own
own_of word = if is_of_drivers word then Some own.Driver else if is_of_scripts word then Some own.Script else None

-- a colon (58) ends the name of a line
abbrev pub is_label : List ℕ → Bool
is_label word = slice_index_or word (length word - 1) 0 == 58

-- the first word, or the one behind the line's name
abbrev pub head_of : List (List ℕ) → List ℕ
head_of [] = []
head_of (first ∷ []) = first
head_of (first ∷ second ∷ words) = if is_label first then second else first

-- ---- Lines

abbrev pub or_own : Option Own → Option Own → Option Own
or_own (Some own) later = Some own
or_own None later = later

-- the first that one of them tells
unfoldable pub first_own : List Line → Option Own
first_own [] = None
first_own (line ∷ lines) = or_own (own_of (head_of (script_words line.1))) (first_own lines)

abbrev pub first_own_in : List ℕ → Option Own
first_own_in text = first_own (lines_from 1 text)

abbrev pub is_race : List (List ℕ) → Bool
is_race words = bytes_eq (head_of words) (codes "race")

unfoldable pub has_race : List Line → Bool
has_race [] = false
has_race (line ∷ lines) = is_race (script_words line.1) || has_race lines

abbrev pub has_race_in : List ℕ → Bool
has_race_in text = has_race (lines_from 1 text)

-- ---- The language

abbrev pub language_by : Option Own → (has_race : Bool) → Option Language
language_by None has_race = None
language_by (Some own.Driver) has_race = Some language.Driver
language_by (Some own.Script) true = Some language.Race
language_by (Some own.Script) false = Some language.Script

abbrev pub language_of : List ℕ → Option Language
language_of text = language_by (first_own_in text) (has_race_in text)

-- another one than is wanted: a scenario is a script
abbrev pub other_of : (wanted : Language) → (found : Option Language) → Option Language
other_of wanted None = None
other_of language.Scenario (Some language.Script) = None
other_of language.Script (Some language.Script) = None
other_of language.Race (Some language.Race) = None
other_of language.Driver (Some language.Driver) = None
other_of wanted (Some found) = Some found
