-- What is said of a text among several is what a search of it alone says.
use Rattle.std.specs.Prelude.{◌≡◌, ℕ, List, Bool, true, false, IfOk, Option, Some, None, Result, codes, option_map}
use Rattle.std.specs.declared.alloc.AllocError.{AllocError}
use Rattle.sva_race_reports.specs.declared.judging.Judged as the
use Rattle.sva_race_reports.specs.declared.searching.Explored.{Explored}
use Rattle.sva_race_reports.specs.declared.searching.Wanted.{Wanted}
use Rattle.sva_race_reports.specs.Explored.{ExploresText, ExploresTo}
use Rattle.sva_why.specs.Why.{why_of}
use Rattle.sva_driver_reports.specs.declared.reports.Ruling.{Ruling}
use Rattle.sva_driver_reports.specs.declared.reports.Ruling.TheVariants.{CutOff, Unsafe, UnsafeSoFar}
use Rattle.sva_driver_reports.specs.declared.wanted.Wanted as driver
use Rattle.sva_driver_reports.specs.Judged.{IsTextJudged, IsTextRun}
use Rattle.sva_reports.specs.Report.{check_of, check_outcome_of}
use Rattle.sva_script_reading.specs.Said as steps
use Rattle.sva_script_reports.specs.Scripts.{test_of}
use Rattle.sva_script_reports.specs.Whys.{whys_of}
use Rattle.sva_streams.specs.declared.streams.Outcome.{Outcome}
use Rattle.sva_streams.specs.declared.streams.Outcome.TheVariants.{Done, Faulted}
use Rattle.sva_several.specs.declared.given.Given.{Given}
use Rattle.sva_several.specs.declared.given.Given.TheVariants as given
use Rattle.sva_several.specs.declared.given.Lack.{Lack}
use Rattle.sva_several.specs.declared.given.Lack.TheVariants as lack
use Rattle.sva_several.specs.declared.searching.Said.{Said}
use Rattle.sva_several.specs.declared.searching.Search.{Search}
use Rattle.sva_several.specs.declared.searching.Search.TheVariants.{Drivers, Lines, Races, Steps, Tests, Whys}
use Rattle.sva_several.specs.declared.verdicts.Verdict.{Verdict}
use Rattle.sva_several.specs.declared.verdicts.Verdict.TheVariants as verdict
use Rattle.sva_several.specs.declared.verdicts.Verdict.TheVariants.{Judged, Ruled, Wrong}

-- a text that is wrong isn't run; of a driver it is no other verdict where not all findings may be told
abbrev pub judged : Option the.Judged → Verdict
judged None = Wrong
judged (Some found) = Judged found

abbrev pub ruled : Option Ruling → Verdict
ruled None = Wrong
ruled (Some UnsafeSoFar) = Ruled Unsafe
ruled (Some found) = Ruled found

-- of a race a line is wanted
abbrev pub line_of : (most : ℕ) → Wanted
line_of most = record { most = most; whys = false; few_ends = false; is_brief = true }

abbrev pub IsExplored : (most : ℕ) → (text : List ℕ) → Said → Type 0
IsExplored most text said =
    (found : Option the.Judged) × (said.verdict ≡ judged found) × ExploresText why_of text (line_of most) said.text.items found

-- of a driver a nearest finding, or all, without their witnesses
abbrev pub wanted_of : (most : ℕ) → (all : Bool) → driver.Wanted
wanted_of most all = record { most = most; all = all; lines_alone = true }

abbrev pub IsJudged : (most : ℕ) → (all : Bool) → (text : List ℕ) → Said → Type 0
IsJudged most all text said =
    (found : Option Ruling) × (said.verdict ≡ ruled found) × IsTextJudged text (wanted_of most all) found said.text.items

abbrev pub IsRun : (text : List ℕ) → Said → Type 0
IsRun text said = (found : Option Ruling) × (said.verdict ≡ ruled found) × IsTextRun text found said.text.items

-- steps were run or read, or something is wrong with them
abbrev pub ran : Outcome → Verdict
ran Done = verdict.Done
ran Faulted = Wrong

abbrev pub IsOfSteps : steps.Said → Said → Type 0
IsOfSteps steps said = (said.verdict ≡ ran steps.outcome) × (said.text.items ≡ steps.text)

-- how many steps a scenario has
abbrev pub check_said : (text : List ℕ) → steps.Said
check_said text = record { text = check_of text; outcome = check_outcome_of text }

abbrev pub IsSaidOfText : Search → (text : List ℕ) → Said → Type 0
IsSaidOfText (Races most) text said = IsExplored most text said
IsSaidOfText (Drivers most all strict) text said = IsJudged most all text said
IsSaidOfText Lines text said = IsRun text said
IsSaidOfText Steps text said = IsOfSteps (check_said text) said
IsSaidOfText Tests text said = IsOfSteps (test_of why_of text) said
IsSaidOfText Whys text said = IsOfSteps (whys_of why_of text) said

-- why a file can't be read
abbrev pub lack_text : Lack → List ℕ
lack_text lack.Missing = codes "error: can't be read: no such file\n"
lack_text lack.Forbidden = codes "error: can't be read: no permission\n"
lack_text lack.Folder = codes "error: can't be read: a folder\n"
lack_text lack.Broken = codes "error: can't be read: reading it failed\n"

abbrev pub IsUnread : Lack → Said → Type 0
IsUnread lack said = (said.verdict ≡ verdict.Unread) × (said.text.items ≡ lack_text lack)

abbrev pub IsSaid : Search → Given → Said → Type 0
IsSaid search (given.Text text) said = IsSaidOfText search text.items said
IsSaid search (given.Unread lack) said = IsUnread lack said

-- where memory didn't lack
abbrev pub IsFound : Search → Given → Result Said AllocError → Type 0
IsFound search given found = IfOk found (IsSaid search given)

-- ---- What a search says, and whether it came to its end: then one of more moments says the same

-- a text that is wrong isn't searched
abbrev pub is_whole : Option Explored → Bool
is_whole None = true
is_whole (Some found) = found.is_whole

abbrev pub is_ended : Option Ruling → Bool
is_ended (Some CutOff) = false
is_ended (Some UnsafeSoFar) = false
is_ended found = true

abbrev pub TriesRace : (most : ℕ) → (text : List ℕ) → Said → (is_ended : Bool) → Type 0
TriesRace most text said ended =
    (found : Option Explored) × (said.verdict ≡ judged (option_map (λ found. found.judged) found)) × (ended ≡ is_whole found)
    × ExploresTo why_of text (line_of most) said.text.items found

abbrev pub TriesDriver : (most : ℕ) → (all : Bool) → (text : List ℕ) → Said → (is_ended : Bool) → Type 0
TriesDriver most all text said ended =
    (found : Option Ruling) × (said.verdict ≡ ruled found) × (ended ≡ is_ended found)
    × IsTextJudged text (wanted_of most all) found said.text.items

-- lines are taken without a limit
abbrev pub TriesLines : (text : List ℕ) → Said → (is_ended : Bool) → Type 0
TriesLines text said ended = IsRun text said × (ended ≡ true)

-- so are steps run and read
abbrev pub TriesSteps : (text : List ℕ) → Said → (is_ended : Bool) → Type 0
TriesSteps text said ended = IsOfSteps (check_said text) said × (ended ≡ true)

abbrev pub TriesTest : (text : List ℕ) → Said → (is_ended : Bool) → Type 0
TriesTest text said ended = IsOfSteps (test_of why_of text) said × (ended ≡ true)

abbrev pub TriesWhys : (text : List ℕ) → Said → (is_ended : Bool) → Type 0
TriesWhys text said ended = IsOfSteps (whys_of why_of text) said × (ended ≡ true)

abbrev pub TriesText : Search → (text : List ℕ) → Said → (is_ended : Bool) → Type 0
TriesText (Races most) text said ended = TriesRace most text said ended
TriesText (Drivers most all strict) text said ended = TriesDriver most all text said ended
TriesText Lines text said ended = TriesLines text said ended
TriesText Steps text said ended = TriesSteps text said ended
TriesText Tests text said ended = TriesTest text said ended
TriesText Whys text said ended = TriesWhys text said ended

-- in a file that can't be read nothing is left to be searched
abbrev pub TriesUnread : Lack → Said → (is_ended : Bool) → Type 0
TriesUnread lack said ended = IsUnread lack said × (ended ≡ true)

abbrev pub Tries : Search → Given → Said → (is_ended : Bool) → Type 0
Tries search (given.Text text) said ended = TriesText search text.items said ended
Tries search (given.Unread lack) said ended = TriesUnread lack said ended
