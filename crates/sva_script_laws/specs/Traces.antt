-- A trace has the answers of the report.
use Rattle.std.specs.Prelude.{◌≡◌, ℕ, if◌then◌else◌, List, [], ◌∷◌, ◌++◌, codes, decimal, filter, flat_map, map, not}
use Rattle.std.specs.Prelude.{Bool, false, Option, Some, None}
use Rattle.sva_grammar.specs.Grammar.{lines_of, said_lines}
use Rattle.sva_reports.specs.Report.{report_of}
use Rattle.sva_grammar.specs.Replies.{ended}
use Rattle.sva_snapshot.specs.Explaining.{Explaining}
use Rattle.sva_script.specs.Lines.{parts_of, script_words}
use Rattle.sva_script_reading.specs.Lines.{is_end}
use Rattle.sva_script_reading.specs.Begins.{Line, lines_from}
use Rattle.sva_script_reading.specs.Said.{well}
use Rattle.sva_script_reports.specs.Scripts.{plain_of}
use Rattle.sva_script_reports.specs.declared.rows.Columns.{Columns}
use Rattle.sva_script_reports.specs.declared.rows.Style.{Style}
use Rattle.sva_script_reports.specs.Rows.{column}
use Rattle.sva_script_reports.specs.Traces.{trace_of}

-- a row of a trace: the number of its line, the step as a line of the scenario, its answer, what is told of messages,
-- where something is, and the lines of what holds the step back
pub record LineRow : Type 0 where
  pub line : ℕ
  pub plain : List ℕ
  pub answer : List ℕ
  pub messages : Option (List ℕ)
  pub whys : List ℕ

-- the answer; where messages are told behind it, it is a column
abbrev pub behind_step : Columns → (answer : List ℕ) → Option (List ℕ) → List ℕ
behind_step columns answer None = answer
behind_step columns answer (Some messages) = column columns 23 answer ++ messages

-- the row of a step, and behind it, where that is wanted, what holds the step back
abbrev pub line_text : Style → LineRow → List ℕ
line_text style it =
    column style.columns 5 (decimal it.line) ++ column style.columns 27 it.plain
    ++ ended (behind_step style.columns it.answer it.messages) ++ (if style.whys then it.whys else [])

-- the row of the end
abbrev pub last_text : Columns → (counts : List ℕ) → List ℕ
last_text columns counts = column columns 5 [] ++ column columns 27 (codes "end") ++ ended counts

-- a trace that has these rows, and these counts at its end
abbrev pub rows_text : Style → List LineRow → (counts : List ℕ) → List ℕ
rows_text style rows counts = flat_map (λ it. line_text style it) rows ++ last_text style.columns counts

-- a report whose lines are the answers of these rows, and last these counts
abbrev pub rows_report : List LineRow → (counts : List ℕ) → List ℕ
rows_report rows counts = flat_map (λ (it : LineRow). ended it.answer) rows ++ ended counts

-- the lines of these that say something, the first of which bears this number
abbrev pub said_texts : (first : ℕ) → List (List ℕ) → List (List ℕ)
said_texts first lines = map (λ line. line.1) (said_lines first lines)

-- does a line of a script say something of the scenario? It says something, and isn't `end => ..`
abbrev pub is_written : List (List ℕ) → Bool
is_written [] = false
is_written words = not (is_end (parts_of words))

-- the numbers of the lines that do
abbrev pub written_numbers : List Line → List ℕ
written_numbers lines = map (λ line. line.0) (filter (λ line. is_written (script_words line.1)) lines)

-- Where a script has a scenario, its trace is made of rows, however they are written: one of each line of the script behind
-- the config that says something of the scenario, with that line's number, the scenario's own line, and the answer that
-- stands at its place in the report. Last both have the same counts.
abbrev pub TracesAnswer : Type 0
TracesAnswer =
    (explained : Explaining) (text plain : List ℕ) → plain_of text ≡ well plain
    → (number : ℕ) × (config : List ℕ) × (rows : List LineRow) × (counts : List ℕ)
    × (written_numbers (lines_from 1 text) ≡ number ∷ map (λ (it : LineRow). it.line) rows)
    × (said_texts 1 (lines_of plain) ≡ config ∷ map (λ (it : LineRow). it.plain) rows)
    × ((style : Style) → trace_of explained style text ≡ well (rows_text style rows counts))
    × (report_of plain ≡ rows_report rows counts)
