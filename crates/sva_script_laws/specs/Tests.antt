-- A test compares what the lines of a script expect with the lines of the report.
use Rattle.std.specs.Prelude.{◌≡◌, ◌↔◌, ℕ, ◌+◌, true, false, Bool, if◌then◌else◌, List, [], ◌∷◌, ◌++◌, drop, filter}
use Rattle.std.specs.Prelude.{is_some, length, map, slice_get, slice_index_or, Option, Some, None, Result, Ok, Err}
use Rattle.std.specs.List.{list_all}
use Rattle.std.specs.Option.{option_map_or}
use Rattle.sva_step.specs.declared.limits.Config.{Config}
use Rattle.sva_model.specs.Wire.{Wire}
use Rattle.sva_grammar.specs.Grammar.{lines_of, words_of}
use Rattle.sva_snapshot.specs.Explaining.{Explaining}
use Rattle.sva_reports.specs.Report.{report_of}
use Rattle.sva_script.specs.declared.faults.Wrong.{Wrong}
use Rattle.sva_script.specs.Expect.{are_as_expected}
use Rattle.sva_script.specs.Lines.{parts_of, script_words}
use Rattle.sva_script_reading.specs.Lines.{LineRead, Plain}
use Rattle.sva_script_runs.specs.Runs.{Running, read_at}
use Rattle.sva_script_reading.specs.Said.{Said, bad, well}
use Rattle.sva_script_reading.specs.Begins.{Line, begin_of, lines_from}
use Rattle.sva_script_reports.specs.Scripts.{At, held_at, miss_text, past_config, past_line, plain_of, start, test_of}
use Rattle.sva_script_reports.specs.Scripts.{told_step, verdict_text}

-- ---- What a script expects

-- what a line expects: its number, its step as it is told, at which place of the report the step's answer stands, the
-- answer that is expected, and what holds the step back
pub record Expectation : Type 0 where
  pub line : ℕ
  pub step : List ℕ
  pub place : ℕ
  pub answer : List ℕ
  pub whys : List ℕ

-- that of a line that was read so where this was kept; what is expected was read with a space before it
abbrev pub expectation : Explaining → (line place : ℕ) → Wire → Option Plain → Option (List ℕ) → List Expectation
expectation explained line place seen step None = []
expectation explained line place seen step (Some expected) = record {
  line = line;
  step = told_step step;
  place = place;
  answer = drop 1 expected;
  whys = held_at explained seen step;
} ∷ []

-- behind a line's step the next answer stands a line further on
abbrev pub place_behind : ℕ → Option Plain → ℕ
place_behind place None = place
place_behind place (Some plain) = place + 1

abbrev pub expect_read : Explaining → (place : ℕ) → Running → (line : ℕ) → List (List ℕ) → (rest : ℕ → At → List Expectation)
    → Result LineRead Wrong → List Expectation
expect_read explained place running line words rest (Ok read) =
    expectation explained line place running.seen read.step read.expected
    ++ rest (place_behind place read.step) (past_line running line (parts_of words) read)
expect_read explained place running line words rest (Err wrong) = []

abbrev pub expect_line : Explaining → (place : ℕ) → At → (line : ℕ) → (rest : ℕ → At → List Expectation) → List (List ℕ)
    → List Expectation
expect_line explained place at line rest [] = rest place at
expect_line explained place at line rest words =
    if at.is_config then rest place (past_config at)
    else expect_read explained place at.running line words rest (read_at at.running (parts_of words))

-- what the lines from here on expect, where the next answer stands at this place
unfoldable pub expectations_from : Explaining → (place : ℕ) → At → List Line → List Expectation
expectations_from explained place at [] = []
expectations_from explained place at (line ∷ lines) =
    expect_line explained place at line.0 (λ next after. expectations_from explained next after lines) (script_words line.1)

abbrev pub expectations_by : Explaining → List ℕ → Result Config Said → List Expectation
expectations_by explained text (Ok config) = expectations_from explained 0 (start config) (lines_from 1 text)
expectations_by explained text (Err said) = []

-- what a script expects, whose lines can be read
abbrev pub expectations_of : Explaining → List ℕ → List Expectation
expectations_of explained text = expectations_by explained text (begin_of text)

-- does a line say what it expects? It has an arrow
abbrev pub expects : List (List ℕ) → Bool
expects words = is_some (parts_of words).expected

-- the numbers of the lines that do
abbrev pub expecting : List Line → List ℕ
expecting lines = map (λ line. line.0) (filter (λ line. expects (script_words line.1)) lines)

-- ---- What a report meets

-- does a line of the report stand at the place, and is it as it is expected? It has as many words, each as it is wanted
abbrev pub is_met : (report : List (List ℕ)) → Expectation → Bool
is_met report it =
    option_map_or (λ answer. are_as_expected (words_of it.answer) (words_of answer)) (slice_get report it.place) false

-- all are met
abbrev pub AreMet : (report : List (List ℕ)) → List Expectation → Type 0
AreMet report expectations = list_all (is_met report) expectations ≡ true

-- what is said of a report where so many were met before: the first that isn't, with what holds its step back; or how
-- many are
abbrev pub judged_by : (report : List (List ℕ)) → (count : ℕ) → List Expectation → Said
judged_by report count [] = well (verdict_text count)
judged_by report count (it ∷ others) =
    if is_met report it then judged_by report (count + 1) others
    else bad (miss_text it.line it.step it.answer (slice_index_or report it.place []) ++ it.whys)

-- ---- The laws, of a script that has a scenario, whatever explains what holds its steps back

-- the test says this of the scenario's report
abbrev pub TestsCompare : Type 0
TestsCompare =
    (explained : Explaining) (text plain : List ℕ) → plain_of text ≡ well plain
    → test_of explained text ≡ judged_by (lines_of (report_of plain)) 0 (expectations_of explained text)

-- it passes exactly where all that is expected is met, and says how many these are
abbrev pub TestsPass : Type 0
TestsPass =
    (explained : Explaining) (text plain : List ℕ) → plain_of text ≡ well plain
    → (test_of explained text ≡ well (verdict_text (length (expectations_of explained text))))
    ↔ AreMet (lines_of (report_of plain)) (expectations_of explained text)

-- each line that says what it expects is among them, in order, and no other
abbrev pub NoneIsSkipped : Type 0
NoneIsSkipped =
    (explained : Explaining) (text plain : List ℕ) → plain_of text ≡ well plain
    → map (λ (it : Expectation). it.line) (expectations_of explained text) ≡ expecting (lines_from 1 text)
