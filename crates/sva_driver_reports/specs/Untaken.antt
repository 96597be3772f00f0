-- The lines that no list of events takes: each stands in a branch that is never gone.
use Rattle.std.specs.Prelude.{ℕ, ◌+◌, ◌==◌, ◌&&◌, ◌||◌, if◌then◌else◌, Bool, true, false, List, [], ◌∷◌, ◌++◌, codes, decimal, length, slice_get}
use Rattle.std.specs.Prelude.{slice_index_or, Option, Some, None}
use Rattle.std.specs.List.{list_any}
use Rattle.sva_open.specs.declared.drivers.Line.{Line}
use Rattle.sva_judge.specs.declared.facts.Fact.{Fact}
use Rattle.sva_judge.specs.declared.facts.Fact.TheVariants.{Taken}
use Rattle.sva_judge.specs.declared.verdicts.Looked.{Looked}

-- ---- Their numbers. A line that is written out several times has one number, which is told where none of these was taken, and once

abbrev pub number_in : Option Line → Option ℕ
number_in None = None
number_in (Some line) = Some line.number

abbrev pub number_of : List Line → Fact → Option ℕ
number_of lines (Taken line) = number_in (slice_get lines line)
number_of lines fact = None

-- was a line of this number taken when the search began?
abbrev pub begins_with : (taken : List Bool) → (number place : ℕ) → Line → Bool
begins_with taken number place line = line.number == number && slice_index_or taken place false

unfoldable pub begun_from : (taken : List Bool) → (number place : ℕ) → List Line → Bool
begun_from taken number place [] = false
begun_from taken number place (line ∷ lines) =
    if begins_with taken number place line then true else begun_from taken number (place + 1) lines

-- or was it in some list?
abbrev pub is_number : (number : ℕ) → Option ℕ → Bool
is_number number None = false
is_number number (Some own) = own == number

abbrev pub meets : List Line → (number : ℕ) → Looked → Bool
meets lines number one = one.is_met && is_number number (number_of lines one.fact)

abbrev pub was_taken : (taken : List Bool) → List Line → List Looked → (number : ℕ) → Bool
was_taken taken lines looked number = begun_from taken number 0 lines || list_any (meets lines number) looked

-- the numbers so far, with that of a line whose fact wasn't met
abbrev pub with_number : (told : List ℕ) → (is_taken : Bool) → (number : ℕ) → List ℕ
with_number told is_taken number = if is_taken || list_any (λ own. own == number) told then told else told ++ number ∷ []

abbrev pub with_line : (taken : List Bool) → List Line → List Looked → (told : List ℕ) → Option ℕ → List ℕ
with_line taken lines looked told None = told
with_line taken lines looked told (Some number) = with_number told (was_taken taken lines looked number) number

abbrev pub with_fact : (taken : List Bool) → List Line → List Looked → (told : List ℕ) → Looked → List ℕ
with_fact taken lines looked told one = if one.is_met then told else with_line taken lines looked told (number_of lines one.fact)

unfoldable pub untaken_by : (taken : List Bool) → List Line → List Looked → (told : List ℕ) → List Looked → List ℕ
untaken_by taken lines looked told [] = told
untaken_by taken lines looked told (one ∷ rest) = untaken_by taken lines looked (with_fact taken lines looked told one) rest

abbrev pub untaken : (taken : List Bool) → List Line → List Looked → List ℕ
untaken taken lines looked = untaken_by taken lines looked [] looked

-- ---- What is said of them: `never: line 9 is taken`, `never: lines 9, 11 and 14 are taken`

-- what stands before the one at a place, of so many
abbrev pub before_number : (count place : ℕ) → List ℕ
before_number count place =
    if place == 0 then codes " " else
    if place + 1 == count then codes " and " else
    codes ", "

abbrev pub number_text : (count place number : ℕ) → List ℕ
number_text count place number = before_number count place ++ decimal number

unfoldable pub numbers_from : (count place : ℕ) → List ℕ → List ℕ
numbers_from count place [] = []
numbers_from count place (number ∷ numbers) = number_text count place number ++ numbers_from count (place + 1) numbers

abbrev pub lines_text : (count : ℕ) → List ℕ
lines_text count = if count == 1 then codes "never: line" else codes "never: lines"

abbrev pub taken_text : (count : ℕ) → List ℕ
taken_text count = if count == 1 then codes " is taken\n" else codes " are taken\n"

abbrev pub untaken_text : List ℕ → List ℕ
untaken_text numbers =
    if length numbers == 0 then [] else
    lines_text (length numbers) ++ numbers_from (length numbers) 0 numbers ++ taken_text (length numbers)
