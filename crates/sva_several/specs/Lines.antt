-- What is told of several files: the lines of each behind the name of its file, and last how many there are of each verdict.
use Rattle.std.specs.Global.{Global}
use Rattle.std.specs.Prelude.{ℕ, ◌==◌, String, string_bytes, if◌then◌else◌, Bool, true, false, List, [], ◌∷◌, ◌++◌}
use Rattle.std.specs.Prelude.{◌+◌, codes, decimal, take, Option, Some, None, Result, Ok, Err}
use Rattle.std.specs.List.{position}
use Rattle.std.specs.declared.alloc.AllocError.{AllocError}
use Rattle.sva_race_reports.specs.declared.judging.Judged.TheVariants as judged
use Rattle.sva_driver_reports.specs.declared.reports.Ruling.TheVariants as ruling
use Rattle.sva_located.specs.Located.{located, shown_name}
use Rattle.sva_located.specs.declared.languages.Language.{Language}
use Rattle.sva_located.specs.declared.languages.Language.TheVariants.{Scenario, Script, Race, Driver}
use Rattle.sva_several.specs.declared.given.Given.{Given}
use Rattle.sva_several.specs.declared.given.Given.TheVariants as given
use Rattle.sva_several.specs.declared.searching.Said.{Said}
use Rattle.sva_several.specs.declared.searching.Search.{Search}
use Rattle.sva_several.specs.declared.searching.Search.TheVariants.{Drivers, Lines, Races, Steps, Tests, Whys}
use Rattle.sva_several.specs.declared.verdicts.Verdict.{Verdict}
use Rattle.sva_several.specs.declared.verdicts.Verdict.TheVariants.{Judged, Ruled, Done, Wrong, Memory, Unread}
use Rattle.sva_several.specs.Verdicts.{count}

-- ---- A line behind a name

-- a text up to a place, or all of it
abbrev pub line_to : List ℕ → Option ℕ → List ℕ
line_to text None = text
line_to text (Some end) = take (end + 1) text

-- with its end
abbrev pub first_line : List ℕ → List ℕ
first_line text = line_to text (position (λ byte. byte == 10) text)

abbrev pub name_if : (name : List ℕ) → (begins : Bool) → List ℕ
name_if name begins = if begins then name ++ codes ": " else []

-- each line behind a name; the first byte begins one, or it doesn't
unfoldable pub named : (name : List ℕ) → (begins : Bool) → List ℕ → List ℕ
named name begins [] = []
named name begins (byte ∷ rest) = (name_if name begins ++ byte ∷ []) ++ named name (byte == 10) rest

-- ---- What is told of a text: where it was searched its first line, or those of all findings or steps, where it is wrong all that is

abbrev pub tells_all : Search → Verdict → Bool
tells_all (Drivers most all strict) (Ruled ruling.Unsafe) = all
tells_all Whys Done = true
tells_all search verdict = false

abbrev pub told_of : List ℕ → (all : Bool) → List ℕ
told_of text all = if all then text else first_line text

abbrev pub told : Search → Verdict → List ℕ → List ℕ
told search Wrong text = text
told search verdict text = told_of text (tells_all search verdict)

abbrev pub no_memory : List ℕ
no_memory = codes "out of memory\n"

abbrev pub said_of : Search → Result Said AllocError → List ℕ
said_of search (Ok said) = told search said.verdict said.text.items
said_of search (Err fault) = no_memory

-- the language that texts are to be in
abbrev pub language_of : Search → Language
language_of (Races most) = Race
language_of (Drivers most all strict) = Driver
language_of Lines = Driver
language_of Steps = Scenario
language_of Tests = Script
language_of Whys = Script

-- what is said of a text that is wrong stands behind the places of its lines
abbrev pub wrong_or_said : Search → (name text : List ℕ) → Said → Verdict → List ℕ
wrong_or_said search name text said Wrong = located (language_of search) name text said.text.items
wrong_or_said search name text said verdict = named (shown_name name) true (told search said.verdict said.text.items)

abbrev pub told_text : Search → (name : List ℕ) → Given → Result Said AllocError → List ℕ
told_text search name (given.Text text) (Ok said) = wrong_or_said search name text.items said said.verdict
told_text search name given found = named (shown_name name) true (said_of search found)

unfoldable pub lines_of : Search → (names : List (String Global)) → List Given → List (Result Said AllocError) → List ℕ
lines_of search (name ∷ names) (given ∷ texts) (found ∷ all) = told_text search (string_bytes name) given found ++ lines_of search names texts all
lines_of search [] texts all = []
lines_of search (name ∷ names) [] all = []
lines_of search (name ∷ names) (given ∷ texts) [] = []

-- ---- Last, how many there are

abbrev pub many : (before : List ℕ) → List (Result Said AllocError) → Verdict → (word : List ℕ) → List ℕ
many before all verdict word = before ++ decimal (count verdict all) ++ word

-- where there are any
abbrev pub some : List (Result Said AllocError) → Verdict → (word : List ℕ) → List ℕ
some all verdict word = if count verdict all == 0 then [] else many (codes ", ") all verdict word

abbrev pub races_text : List (Result Said AllocError) → List ℕ
races_text all =
    many [] all (Judged judged.Holds) (codes " hold") ++ many (codes ", ") all (Judged judged.Fails) (codes " fail")
    ++ many (codes ", ") all (Judged judged.Unknown) (codes " unknown") ++ some all Wrong (codes " wrong")

-- of how many drivers the verdict is open, and in how many nothing was ever tried
abbrev pub open_text : List (Result Said AllocError) → List ℕ
open_text all = some all (Ruled ruling.CutOff) (codes " cut off") ++ some all (Ruled ruling.Untried) (codes " untried")

abbrev pub drivers_text : List (Result Said AllocError) → List ℕ
drivers_text all =
    many [] all (Ruled ruling.Safe) (codes " safe") ++ many (codes ", ") all (Ruled ruling.Unsafe) (codes " unsafe")
    ++ many (codes ", ") all (Ruled ruling.Stuck) (codes " stuck") ++ open_text all ++ some all Wrong (codes " wrong")

-- lines that were taken one after another: lead to nothing wrong, or to something, or aren't run
abbrev pub runs_text : List (Result Said AllocError) → List ℕ
runs_text all =
    many [] all (Ruled ruling.Right) (codes " right") ++ many (codes ", ") all (Ruled ruling.Unsafe) (codes " wrong")
    ++ some all Wrong (codes " not run")

-- texts of steps that are so, and those that are not
abbrev pub steps_text : List (Result Said AllocError) → (done wrong : List ℕ) → List ℕ
steps_text all done wrong = many [] all Done done ++ many (codes ", ") all Wrong wrong

abbrev pub kinds_text : Search → List (Result Said AllocError) → List ℕ
kinds_text (Races most) all = races_text all
kinds_text (Drivers most each strict) all = drivers_text all
kinds_text Lines all = runs_text all
kinds_text Tests all = steps_text all (codes " passed") (codes " failed")
kinds_text Steps all = steps_text all (codes " right") (codes " wrong")
kinds_text Whys all = steps_text all (codes " right") (codes " wrong")

-- for how many memory lacked, and how many can't be read
abbrev pub lacks_text : List (Result Said AllocError) → List ℕ
lacks_text all = some all Memory (codes " out of memory") ++ some all Unread (codes " not read")

abbrev pub totals_text : Search → List (Result Said AllocError) → List ℕ
totals_text search all = kinds_text search all ++ lacks_text all ++ 10 ∷ []

-- of a part there is no last line: so the lines of all parts are those of all files
abbrev pub totals_if : Search → (is_part : Bool) → List (Result Said AllocError) → List ℕ
totals_if search is_part all = if is_part then [] else totals_text search all

abbrev pub report_text : Search → (is_part : Bool) → (names : List (String Global)) → List Given → List (Result Said AllocError) → List ℕ
report_text search is_part names texts all = lines_of search names texts all ++ totals_if search is_part all
