-- How a run of svahost ends.
use Rattle.std.specs.Prelude.{◌≡◌, ◌≢◌, ◌⊎◌, ◌≤◌, ℕ, ◌+◌, List, [], ◌∷◌, ◌++◌, codes, Bool, true, false, if◌then◌else◌, Option, Some, None, IfOk, IfSome}
use Rattle.std.specs.Prelude.{Result, Ok, Err}
use Rattle.std.specs.Io.KnownBytes.{Appends, Keeps}
use Rattle.sva_reports.specs.Report.{check_of, check_outcome_of, outcome_of, report_of}
use Rattle.sva_scenario.specs.StormReports.{StormsOf}
use Rattle.sva_streams.specs.Streams.{AppendsPrefix, Stream, Writes}
use Rattle.sva_streams.specs.declared.reading.TheConstants.{MOST_TURNS}
use Rattle.sva_streams.specs.declared.streams.DriveFault.{DriveFault}
use Rattle.sva_streams.specs.declared.streams.DriveFault.TheVariants.{Read, Write, Memory}
use Rattle.sva_streams.specs.declared.streams.Outcome.{Outcome}
use Rattle.sva_streams.specs.declared.streams.Outcome.TheVariants.{Done, Faulted}
use Rattle.sva_charts.specs.Charts.{Charts}
use Rattle.sva_charts.specs.Witnesses.{ChartsDriver}
use Rattle.sva_script_reports.specs.declared.rows.Columns.{Columns}
use Rattle.sva_script_reports.specs.declared.rows.Columns.TheVariants.{Padded, Tabbed}
use Rattle.sva_script_reports.specs.declared.rows.Style.{Style}
use Rattle.sva_script_reading.specs.Said.{Prints}
use Rattle.sva_script_reports.specs.Scripts.{plain_of, test_of}
use Rattle.sva_script_reports.specs.Shows.{show_of}
use Rattle.sva_script_reports.specs.Whys.{whys_of}
use Rattle.sva_script_reports.specs.Traces.{trace_of}
use Rattle.sva_why.specs.Why.{why_of}
use Rattle.sva_race_reports.specs.declared.judging.Judged.{Judged}
use Rattle.sva_race_reports.specs.declared.judging.Judged.TheVariants.{Holds, Fails, Unknown}
use Rattle.sva_race_reports.specs.declared.searching.Wanted.{Wanted}
use Rattle.sva_race_reports.specs.Explored.{Explores}
use Rattle.sva_driver_reports.specs.declared.reports.Ruling.{Ruling}
use Rattle.sva_driver_reports.specs.declared.reports.Ruling.TheVariants.{Safe, Untried, Right, Unsafe, UnsafeSoFar, Stuck, CutOff}
use Rattle.sva_driver_reports.specs.declared.wanted.Wanted as driver
use Rattle.sva_driver_reports.specs.Judged.{Judges, Runs}
use Rattle.sva_variants.specs.declared.asking.Question.{Question}
use Rattle.sva_variants.specs.declared.asking.Question.TheVariants.{Needed, Platforms}
use Rattle.sva_variants.specs.Questions.{TellsVaried}
use Rattle.std.specs.declared.alloc.AllocError.{AllocError}
use Rattle.sva_located.specs.Located.{located}
use Rattle.sva_located.specs.declared.languages.Language.{Language}
use Rattle.sva_located.specs.declared.languages.Language.TheVariants.{Scenario, Script, Race, Driver}
use Rattle.sva_command.specs.declared.command.Asked.{Asked}
use Rattle.sva_command.specs.declared.command.Beside.{Beside}
use Rattle.sva_command.specs.declared.command.Asked.TheVariants.{Replay, Check, Storm, Plain, Test, Show, Why, Chart, Explore, Judge, Trace}
use Rattle.sva_program.specs.declared.run.Ending.{Ending}
use Rattle.sva_program.specs.declared.run.Ending.TheVariants.{Explored, Ran, Ruled}

-- `--strict` is of a driver that is judged
abbrev pub is_strict : Asked → Bool
is_strict (Judge run most strict all beside) = strict
is_strict asked = false

-- where nothing was ever tried in a driver that is safe, the verdict says nothing
abbrev pub status_of_untried : (strict : Bool) → ℕ
status_of_untried strict = if strict then 8 else 0

-- the status: 0 where the steps were run, all claims of a race hold, or a driver is safe or right; 1 for a line fault, a refused config and every
-- fault of a stream or of memory; 4 where a claim fails, or a driver isn't safe, or stuck; 5 where no claim does and one is unknown, or
-- the search of a driver was cut off; and, with `--strict`, 8 where nothing was ever tried in one
abbrev pub status_of : (strict : Bool) → Result Ending DriveFault → ℕ
status_of strict (Ok (Ran Done)) = 0
status_of strict (Ok (Ran Faulted)) = 1
status_of strict (Ok (Explored Holds)) = 0
status_of strict (Ok (Explored Fails)) = 4
status_of strict (Ok (Explored Unknown)) = 5
status_of strict (Ok (Ruled Safe)) = 0
status_of strict (Ok (Ruled Untried)) = status_of_untried strict
status_of strict (Ok (Ruled Right)) = 0
status_of strict (Ok (Ruled Unsafe)) = 4
status_of strict (Ok (Ruled UnsafeSoFar)) = 4
status_of strict (Ok (Ruled Stuck)) = 4
status_of strict (Ok (Ruled CutOff)) = 5
status_of strict (Err fault) = 1

-- how a run of steps ends
abbrev pub ran_of : Result Outcome DriveFault → Result Ending DriveFault
ran_of (Ok outcome) = Ok (Ran outcome)
ran_of (Err fault) = Err fault

-- how the exploring of a race ends; of one that isn't run nothing is said of its claims
abbrev pub explored_of : Result (Option Judged) DriveFault → Result Ending DriveFault
explored_of (Ok None) = Ok (Ran Faulted)
explored_of (Ok (Some judged)) = Ok (Explored judged)
explored_of (Err fault) = Err fault

-- how the judging of a driver ends; of one that isn't run nothing is said
abbrev pub ruled_of : Result (Option Ruling) DriveFault → Result Ending DriveFault
ruled_of (Ok None) = Ok (Ran Faulted)
ruled_of (Ok (Some ruling)) = Ok (Ruled ruling)
ruled_of (Err fault) = Err fault

-- the line that tells of a fault
abbrev pub fault_line : DriveFault → List ℕ
fault_line Read = codes "svahost: read fault" ++ 10 ∷ []
fault_line Write = codes "svahost: write fault" ++ 10 ∷ []
fault_line Memory = codes "svahost: out of memory" ++ 10 ∷ []

-- the line that tells of a command line that couldn't be read as text
abbrev pub unread_line : List ℕ
unread_line = codes "error: a word of the command line isn't UTF-8 text" ++ 10 ∷ []

-- what the run says on standard error
abbrev pub complaint : Result Ending DriveFault → List ℕ
complaint (Ok ending) = []
complaint (Err fault) = fault_line fault

-- a stream was given a text: all of it where no call failed, and else a prefix of it, up to the first failure
abbrev pub Says : {T : Type 0} → (T → Option (List ℕ)) → Stream T → Stream T → List ℕ → Type 0
Says contents old new text =
    AppendsPrefix (contents old.inner) (contents new.inner) text
    × (new.failures ≡ old.failures → Appends (contents old.inner) (contents new.inner) text)
    × (old.failures ≤ new.failures)
    × (new.failures ≤ old.failures + 1)

-- what a command makes of its input, where that is known; after a read fault it wrote nothing
abbrev pub WhereKnown : {A : Type 0} → (List ℕ → Type 0) → Option (List ℕ) → Option (List ℕ) → Option (List ℕ) → Result A DriveFault → Type 0
WhereKnown makes input old new (Err Read) = Keeps old new
WhereKnown makes input old new ended = IfSome input makes

-- a scenario's text was written, or a prefix of it after a fault, and the run ended so
abbrev pub Makes : Option (List ℕ) → Option (List ℕ) → List ℕ → Outcome → Result Outcome DriveFault → Type 0
Makes old new text outcome ended = Writes old new text ended × IfOk ended (λ found. found ≡ outcome)

-- `--live` leaves out the padding of columns
abbrev pub columns_of : (live : Bool) → Columns
columns_of live = if live then Tabbed else Padded

-- `--why` tells behind the row of a step what holds it back
abbrev pub style_of : (live whys : Bool) → Style
style_of live whys = record { columns = columns_of live; whys = whys }

-- `--most` limits how many moments are looked at, and `--why` tells behind each witness what holds its steps back,
-- and the lines that wait where it ends
abbrev pub wanted_of : (most : ℕ) → (whys few_ends : Bool) → Wanted
wanted_of most whys few_ends = record { most = most; whys = whys; few_ends = few_ends; is_brief = false }

-- a run of steps ended, and made this
abbrev pub RunsTo : (Result Outcome DriveFault → Type 0) → Result Ending DriveFault → Type 0
RunsTo makes ended = (found : Result Outcome DriveFault) × (ended ≡ ran_of found) × makes found

-- so did the exploring of a race
abbrev pub ExploresTo : (Result (Option Judged) DriveFault → Type 0) → Result Ending DriveFault → Type 0
ExploresTo makes ended = (found : Result (Option Judged) DriveFault) × (ended ≡ explored_of found) × makes found

-- so did the judging of a driver
abbrev pub RulesTo : (Result (Option Ruling) DriveFault → Type 0) → Result Ending DriveFault → Type 0
RulesTo makes ended = (found : Result (Option Ruling) DriveFault) × (ended ≡ ruled_of found) × makes found

-- of a driver a nearest finding is wanted, or with `--all` all, with their witnesses
abbrev pub wanted_of_driver : (most : ℕ) → (all : Bool) → driver.Wanted
wanted_of_driver most all = record { most = most; all = all; lines_alone = false }

-- its lines were taken one after another, or all orders judged
abbrev pub Rules : (run : Bool) → driver.Wanted → (text : List ℕ) → (old new : Option (List ℕ)) → Result (Option Ruling) DriveFault → Type 0
Rules true wanted text old new found = Runs text old new found
Rules false wanted text old new found = Judges text wanted old new found

-- what is asked of it beside its verdict
abbrev pub question_of : Beside → Option Question
question_of beside =
    if beside.needed then Some Needed else
    if beside.platforms then Some Platforms else
    None

-- or that was answered
abbrev pub RulesOf : (run : Bool) → Option Question → driver.Wanted → (text : List ℕ) → (old new : Option (List ℕ))
    → Result (Option Ruling) DriveFault → Type 0
RulesOf run (Some question) wanted text old new found = TellsVaried question text wanted.most old new found
RulesOf run None wanted text old new found = Rules run wanted text old new found

-- or its witness was drawn
abbrev pub RulesIf : (chart run : Bool) → Option Question → driver.Wanted → (text : List ℕ) → (old new : Option (List ℕ))
    → Result (Option Ruling) DriveFault → Type 0
RulesIf true run question wanted text old new found = ChartsDriver text wanted.most old new found
RulesIf false run question wanted text old new found = RulesOf run question wanted text old new found

abbrev pub RulesBy : (run : Bool) → Beside → driver.Wanted → (text : List ℕ) → (old new : Option (List ℕ)) → Result (Option Ruling) DriveFault → Type 0
RulesBy run beside wanted text old new found = RulesIf beside.chart run (question_of beside) wanted text old new found

-- What a command wrote. What a storm makes of its input depends on its threads: they have played the scenario in so many turns each, and
-- what is written is what the audit of their receipts found, the sum of its own counts or a bad receipt; where memory lacked, nothing is. A
-- trace has written the rows of what came before a read fault. Of a chart it is known what it says where the script is wrong, and that
-- it is one text, of which after a fault a prefix was written; not what is drawn. What is said of a race depends on how the search went,
-- but for what is said of its claims: that is so of all lists of permitted choices.
abbrev pub Reports : Asked → Option (List ℕ) → Option (List ℕ) → Option (List ℕ) → Result Ending DriveFault → Type 0
Reports Replay input old new =
    RunsTo (λ found. WhereKnown (λ text. Makes old new (report_of text) (outcome_of text) found) input old new found)
Reports Check input old new =
    RunsTo (λ found. WhereKnown (λ text. Makes old new (check_of text) (check_outcome_of text) found) input old new found)
Reports (Storm turns) input old new = RunsTo (λ found. WhereKnown (λ text. StormsOf text turns old new found) input old new found)
Reports Plain input old new = RunsTo (λ found. WhereKnown (λ text. Prints (plain_of text) old new found) input old new found)
Reports Test input old new = RunsTo (λ found. WhereKnown (λ text. Prints (test_of why_of text) old new found) input old new found)
Reports Show input old new = RunsTo (λ found. WhereKnown (λ text. Prints (show_of text) old new found) input old new found)
Reports Why input old new = RunsTo (λ found. WhereKnown (λ text. Prints (whys_of why_of text) old new found) input old new found)
Reports (Chart svg) input old new = RunsTo (λ found. WhereKnown (λ text. Charts text old new found) input old new found)
Reports (Explore most whys few_ends) input old new =
    ExploresTo (λ found. WhereKnown (λ text. Explores why_of text (wanted_of most whys few_ends) old new found) input old new found)
Reports (Judge run most strict all beside) input old new =
    RulesTo (λ found. WhereKnown (λ text. RulesBy run beside (wanted_of_driver most all) text old new found) input old new found)
Reports (Trace live whys) input old new = RunsTo (λ found. IfSome input (λ text. Prints (trace_of why_of (style_of live whys) text) old new found))

-- a text for the user: something is said, and where the value's own text is known and isn't empty, it is that one
abbrev pub IsSaid : Option (List ℕ) → List ℕ → Type 0
IsSaid shown text = (text ≢ []) × IfSome shown (λ own. own ≢ [] → text ≡ own)

-- a read fault comes where the reader failed or its turns were spent, a write fault where the writer failed, and else none of them failed
abbrev pub HasCause : {A R W : Type 0} → Stream R → Stream W → Result A DriveFault → Type 0
HasCause reader writer (Err Read) = (reader.failures ≡ 1) ⊎ ((reader.failures ≡ 0) × (reader.calls ≡ MOST_TURNS))
HasCause reader writer (Err Write) = (reader.failures ≡ 0) × (writer.failures ≡ 1)
HasCause reader writer _ = (reader.failures ≡ 0) × (writer.failures ≡ 0)

-- ---- A text that is a file's

-- what a command tells of each line as it comes isn't kept
abbrev pub is_streamed : Asked → Bool
is_streamed (Trace live whys) = true
is_streamed asked = false

-- the language of the texts that a command takes
abbrev pub language_of : Asked → Language
language_of Replay = Scenario
language_of Check = Scenario
language_of (Storm turns) = Scenario
language_of (Explore most whys few_ends) = Race
language_of (Judge run most strict all beside) = Driver
language_of asked = Script

-- neither a text nor a buffer fails but for want of memory
abbrev pub kept_of : Result Ending DriveFault → Result Ending AllocError
kept_of (Ok ending) = Ok ending
kept_of (Err fault) = Err (record {})

-- where the text is wrong each line that is wrong stands behind its place
abbrev pub told_on : Asked → (name text : List ℕ) → Ending → (said : List ℕ) → List ℕ
told_on asked name text (Ran Faulted) said = located (language_of asked) name text said
told_on asked name text ending said = said

-- this is told of the file of a text: what the command says of the text by itself, behind the file's name where it is wrong
abbrev pub TextBy : Asked → (name text told : List ℕ) → Ending → Type 0
TextBy asked name text told ending =
    (said : List ℕ) × Reports asked (Some text) (Some []) (Some said) (Ok ending) × (told ≡ told_on asked name text ending said)

-- that was written, or a prefix of it where writing failed; where memory lacked, nothing was
abbrev pub RunsOnText : Asked → (name text : List ℕ) → (old new : Option (List ℕ)) → Result Ending DriveFault → Type 0
RunsOnText asked name text old new (Ok ending) = (told : List ℕ) × TextBy asked name text told ending × Appends old new told
RunsOnText asked name text old new (Err Write) =
    (told : List ℕ) × (ending : Ending) × TextBy asked name text told ending × AppendsPrefix old new told
RunsOnText asked name text old new (Err fault) = AppendsPrefix old new []
