-- What the report of a script's scenario has.
use Rattle.std.specs.Prelude.{◌≡◌, ℕ, if◌then◌else◌, List, [], ◌∷◌, ◌++◌, Option, Some, None, Result, Ok, Err}
use Rattle.sva_labels.specs.Host.{reply_of}
use Rattle.sva_model.specs.Wire.{Wire}
use Rattle.sva_reports.specs.Report.{report_of}
use Rattle.sva_grammar.specs.Replies.{ended, reply_text}
use Rattle.sva_script.specs.declared.faults.Wrong.{Wrong}
use Rattle.sva_script.specs.Lines.{parts_of, script_words}
use Rattle.sva_script_reading.specs.Lines.{LineRead, Plain}
use Rattle.sva_script_runs.specs.Runs.{Running, read_at}
use Rattle.sva_script_reading.specs.Said.{well}
use Rattle.sva_script_reading.specs.Begins.{Line, begin_of, lines_from, said_by}
use Rattle.sva_reports.specs.Counts.{counts_at}
use Rattle.sva_script_reports.specs.Scripts.{At, past_config, past_line, plain_of, start}

-- what a line's step is answered, a line; `end => ..` has no step
abbrev pub step_answer : Wire → Option Plain → List ℕ
step_answer wire None = []
step_answer wire (Some plain) = ended (reply_text (reply_of wire plain.step))

abbrev pub answer_read : Running → (line : ℕ) → List (List ℕ) → (rest : At → List ℕ) → Result LineRead Wrong → List ℕ
answer_read running line words rest (Ok read) = step_answer running.seen read.step ++ rest (past_line running line (parts_of words) read)
answer_read running line words rest (Err wrong) = []

abbrev pub answer_line : At → Line → (rest : At → List ℕ) → List (List ℕ) → List ℕ
answer_line at line rest [] = rest at
answer_line at line rest words =
    if at.is_config then rest (past_config at) else answer_read at.running line.0 words rest (read_at at.running (parts_of words))

-- the answers of the lines from here on, each with which its line was resolved, and last the counts
unfoldable pub answers_from : At → List Line → List ℕ
answers_from at [] = ended (counts_at at.running.seen)
answers_from at (line ∷ lines) = answer_line at line (λ next. answers_from next lines) (script_words line.1)

-- those of a script whose lines can be read
abbrev pub answers_of : List ℕ → List ℕ
answers_of text = (said_by (λ config. well (answers_from (start config) (lines_from 1 text))) (begin_of text)).text

-- where a script has a scenario, that one's report is made of them
abbrev pub ScriptsReplay : Type 0
ScriptsReplay = (text plain : List ℕ) → plain_of text ≡ well plain → report_of plain ≡ answers_of text
