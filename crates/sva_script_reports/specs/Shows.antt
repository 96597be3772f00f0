-- What `show` says of a script: what the host keeps behind its last line.
use Rattle.std.specs.Prelude.{◌≡◌, ℕ, Bool, true, false, if◌then◌else◌, List, [], ◌∷◌, ◌++◌, Result, Ok, Err}
use Rattle.std.specs.declared.alloc.AllocError.{AllocError}
use Rattle.sva_lines.specs.Listing.{listing_of}
use Rattle.sva_streams.specs.declared.streams.Outcome.TheVariants.{Faulted}
use Rattle.sva_script.specs.declared.faults.Wrong.{Wrong}
use Rattle.sva_script.specs.Lines.{parts_of, script_words}
use Rattle.sva_script_reading.specs.Lines.{LineRead}
use Rattle.sva_script_runs.specs.Runs.{Running, read_at}
use Rattle.sva_script_reports.specs.Lines.{behind_line}
use Rattle.sva_script_reading.specs.Said.{Said, faulty, well}
use Rattle.sva_script_reading.specs.Begins.{Line, begin_of, fault_of, lines_from, said_by}
use Rattle.sva_script_reports.specs.Scripts.{At, past_config, past_line, start}

-- what a line comes to whose words are these; `rest` is what those behind it come to
abbrev pub show_read : Running → (line : ℕ) → List (List ℕ) → (rest : At → Said) → Result LineRead Wrong → Said
show_read running line words rest (Ok read) = rest (past_line running line (parts_of words) read)
show_read running line words rest (Err wrong) = faulty (fault_of running.known line words wrong ∷ [])

abbrev pub show_step : Running → (line : ℕ) → List (List ℕ) → (rest : At → Said) → Said
show_step running line words rest = show_read running line words rest (read_at running (parts_of words))

abbrev pub show_line : At → (line : ℕ) → (rest : At → Said) → List (List ℕ) → Said
show_line at line rest [] = rest at
show_line at line rest words = if at.is_config then rest (past_config at) else show_step at.running line words rest

-- what is said where these lines are left
unfoldable pub show_from : At → List Line → Said
show_from at [] = well (listing_of at.running.seen)
show_from at (line ∷ lines) = show_line at line.0 (λ next. show_from next lines) (script_words line.1)

-- what `show` says of a script
abbrev pub show_of : List ℕ → Said
show_of text = said_by (λ config. show_from (start config) (lines_from 1 text)) (begin_of text)

-- ---- What a call makes of a line

-- it was taken, or it is wrong, and that is appended
abbrev pub StepsShow : Running → (line : ℕ) → List (List ℕ) → (old new : List ℕ) → Running → Result Bool AllocError → Type 0
StepsShow before line words old new after (Ok true) =
    (new ≡ old) × ((rest : At → Said) → show_step before line words rest ≡ rest (behind_line after))
StepsShow before line words old new after (Ok false) =
    (said : Said) × (said.outcome ≡ Faulted) × (new ≡ old ++ said.text) × ((rest : At → Said) → show_step before line words rest ≡ said)
StepsShow before line words old new after (Err lack) = Unit {0}

-- the same of words that may be those of the config, or none
abbrev pub WordsShow : At → (line : ℕ) → List (List ℕ) → (old new : List ℕ) → At → Result Bool AllocError → Type 0
WordsShow before line words old new after (Ok true) =
    (new ≡ old) × ((rest : At → Said) → show_line before line rest words ≡ rest after)
WordsShow before line words old new after (Ok false) =
    (said : Said) × (said.outcome ≡ Faulted) × (new ≡ old ++ said.text) × ((rest : At → Said) → show_line before line rest words ≡ said)
WordsShow before line words old new after (Err lack) = Unit {0}
