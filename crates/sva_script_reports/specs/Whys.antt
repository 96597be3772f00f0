-- What `why` says of a script: what holds each step back that was refused, blocked or withheld, as it is explained.
use Rattle.std.specs.Prelude.{◌≡◌, ℕ, Bool, true, false, if◌then◌else◌, List, [], ◌∷◌, ◌++◌, codes, decimal, Option, Some, None, Result, Ok, Err}
use Rattle.std.specs.declared.alloc.AllocError.{AllocError}
use Rattle.sva_step.specs.declared.steps.Step.{Step}
use Rattle.sva_labels.specs.Host.{next_of, reply_of}
use Rattle.sva_model.specs.Steps.{Reply}
use Rattle.sva_model.specs.Wire.{Wire}
use Rattle.sva_grammar.specs.Replies.{ended, reply_text}
use Rattle.sva_streams.specs.declared.streams.Outcome.TheVariants.{Faulted}
use Rattle.sva_snapshot.specs.Explaining.{Explaining, is_held}
use Rattle.sva_script.specs.declared.faults.Wrong.{Wrong}
use Rattle.sva_script.specs.Lines.{parts_of, script_words}
use Rattle.sva_script_reading.specs.Lines.{LineRead, Plain}
use Rattle.sva_script_runs.specs.Runs.{Running, read_at}
use Rattle.sva_script_reading.specs.Begins.{Line, begin_of, fault_of, lines_from, said_by}
use Rattle.sva_script_reading.specs.Said.{IsSaid, Said, faulty, well}
use Rattle.sva_script_reports.specs.Lines.{behind_line}
use Rattle.sva_script_reports.specs.Scripts.{At, past_config, past_line, start}

-- `line 16: quit 0 1: refused 31 Busy`: the number of the line, the step and its answer
abbrev pub case_line : (line : ℕ) → (plain : List ℕ) → Reply → List ℕ
case_line line plain reply = codes "line " ++ decimal line ++ codes ": " ++ plain ++ codes ": " ++ ended (reply_text reply)

-- the same, and what holds the step back where it has left this
abbrev pub held_text : Explaining → (line : ℕ) → (plain : List ℕ) → Wire → Step → Reply → List ℕ
held_text explained line plain wire step reply = case_line line plain reply ++ explained wire step reply

-- of a step that isn't held back nothing is said
abbrev pub case_text : Explaining → (line : ℕ) → (plain : List ℕ) → Wire → Step → Reply → List ℕ
case_text explained line plain wire step reply = if is_held reply then held_text explained line plain wire step reply else []

-- the case of a line's step; `end => ..` has none
abbrev pub case_of : Explaining → Wire → (line : ℕ) → Option Plain → List ℕ
case_of explained wire line None = []
case_of explained wire line (Some plain) = case_text explained line plain.text (next_of wire plain.step) plain.step (reply_of wire plain.step)

-- the cases, or that there is none
abbrev pub cases_text : List ℕ → List ℕ
cases_text [] = ended (codes "nothing was refused, blocked or withheld")
cases_text text = text

-- what a line comes to whose words are these; `rest` is what those behind it come to, from what was written then
abbrev pub why_read : Explaining → Running → (line : ℕ) → List (List ℕ) → (out : List ℕ) → (rest : List ℕ → At → Said) → Result LineRead Wrong → Said
why_read explained running line words out rest (Ok read) = rest (out ++ case_of explained running.seen line read.step)
    (past_line running line (parts_of words) read)
why_read explained running line words out rest (Err wrong) = faulty (fault_of running.known line words wrong ∷ [])

abbrev pub why_step : Explaining → Running → (line : ℕ) → List (List ℕ) → (out : List ℕ) → (rest : List ℕ → At → Said) → Said
why_step explained running line words out rest = why_read explained running line words out rest (read_at running (parts_of words))

abbrev pub why_line : Explaining → At → (line : ℕ) → (out : List ℕ) → (rest : List ℕ → At → Said) → List (List ℕ) → Said
why_line explained at line out rest [] = rest out at
why_line explained at line out rest words = if at.is_config then rest out (past_config at) else why_step explained at.running line words out rest

-- what is said where this was written so far, and these lines are left
unfoldable pub why_from : Explaining → (out : List ℕ) → At → List Line → Said
why_from explained out at [] = well (cases_text out)
why_from explained out at (line ∷ lines) = why_line explained at line.0 out (λ text next. why_from explained text next lines) (script_words line.1)

-- what `why` says of a script
abbrev pub whys_of : Explaining → List ℕ → Said
whys_of explained text = said_by (λ config. why_from explained [] (start config) (lines_from 1 text)) (begin_of text)

-- ---- What a call makes of a line

-- the case of its step was appended, or the line is wrong, and that alone is written
abbrev pub StepsWhy : Explaining → Running → (line : ℕ) → List (List ℕ) → (old new : List ℕ) → Running → Result Bool AllocError → Type 0
StepsWhy explained before line words old new after (Ok true) =
    (text : List ℕ) × (new ≡ old ++ text)
    × ((out : List ℕ) (rest : List ℕ → At → Said) → why_step explained before line words out rest ≡ rest (out ++ text) (behind_line after))
StepsWhy explained before line words old new after (Ok false) =
    (said : Said) × IsSaid said new (Ok Faulted) × ((out : List ℕ) (rest : List ℕ → At → Said) → why_step explained before line words out rest ≡ said)
StepsWhy explained before line words old new after (Err lack) = Unit {0}

-- the same of words that may be those of the config, or none
abbrev pub WordsWhy : Explaining → At → (line : ℕ) → List (List ℕ) → (old new : List ℕ) → At → Result Bool AllocError → Type 0
WordsWhy explained before line words old new after (Ok true) =
    (text : List ℕ) × (new ≡ old ++ text)
    × ((out : List ℕ) (rest : List ℕ → At → Said) → why_line explained before line out rest words ≡ rest (out ++ text) after)
WordsWhy explained before line words old new after (Ok false) =
    (said : Said) × IsSaid said new (Ok Faulted) × ((out : List ℕ) (rest : List ℕ → At → Said) → why_line explained before line out rest words ≡ said)
WordsWhy explained before line words old new after (Err lack) = Unit {0}
