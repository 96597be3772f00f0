-- What a call makes of a line of a script that runs.
use Rattle.std.specs.Prelude.{◌≡◌, ℕ, ◌+◌, Bool, true, false, is_none, not, List, [], ◌∷◌, ◌++◌, Result, Ok, Err}
use Rattle.std.specs.declared.alloc.AllocError.{AllocError}
use Rattle.sva_step.specs.declared.limits.Config.{Config}
use Rattle.sva_streams.specs.declared.streams.Outcome.TheVariants.{Faulted}
use Rattle.sva_snapshot.specs.Explaining.{Explaining}
use Rattle.sva_script.specs.declared.faults.Stop.{Stop}
use Rattle.sva_script.specs.declared.faults.Stop.TheVariants as stop
use Rattle.sva_script_reading.specs.Said.{IsSaid, Said, faulty}
use Rattle.sva_script.specs.Lines.{parts_of, script_words}
use Rattle.sva_script_reading.specs.Begins.{Line, fault_of}
use Rattle.sva_script_reports.specs.Scripts.{At, plain_line, plain_step, test_line, test_made, test_step}
use Rattle.sva_script_reports.specs.declared.testing.Compared.{Compared}
use Rattle.sva_script_reports.specs.declared.testing.Compared.TheVariants.{Differs, NotExpected, Same}
use Rattle.sva_script_runs.specs.declared.running.Taken.{Taken}
use Rattle.sva_script_runs.specs.Runs.{Running}
use Rattle.sva_model.specs.Wire.{Wire}

-- behind a line of the script
abbrev pub behind_line : Running → At
behind_line running = record { is_config = false; running = running }

-- the line of a scenario was appended, or the line is wrong, and that alone is written
abbrev pub StepsPlain : Running → (line : ℕ) → List (List ℕ) → (old new : List ℕ) → Running → Result Bool AllocError → Type 0
StepsPlain before line words old new after (Ok true) =
    (text : List ℕ) × (new ≡ old ++ text)
    × ((out : List ℕ) (rest : List ℕ → At → Said) → plain_step before line words out rest ≡ rest (out ++ text) (behind_line after))
StepsPlain before line words old new after (Ok false) =
    (said : Said) × IsSaid said new (Ok Faulted) × ((out : List ℕ) (rest : List ℕ → At → Said) → plain_step before line words out rest ≡ said)
StepsPlain before line words old new after (Err lack) = Unit {0}

-- the answer is as expected, or nothing is expected of it, or it differs or the line is wrong, and that alone is written
abbrev pub Compares : Explaining → Running → (line : ℕ) → List (List ℕ) → (old new : List ℕ) → (is_last : Bool) → Running → Result Compared AllocError → Type 0
Compares explained before line words old new is_last after (Ok Same) =
    (new ≡ old)
    × ((count : ℕ) (rest : ℕ → Bool → At → Said) → test_step explained before line words count rest ≡ rest (count + 1) is_last (behind_line after))
Compares explained before line words old new is_last after (Ok NotExpected) =
    (new ≡ old) × ((count : ℕ) (rest : ℕ → Bool → At → Said) → test_step explained before line words count rest ≡ rest count is_last (behind_line after))
Compares explained before line words old new is_last after (Ok Differs) =
    (said : Said) × (said.outcome ≡ Faulted) × (new ≡ old ++ said.text)
    × ((count : ℕ) (rest : ℕ → Bool → At → Said) → test_step explained before line words count rest ≡ said)
Compares explained before line words old new is_last after (Err lack) = Unit {0}

-- what is wrong with the lines of a script was written in place of what was there, if something is
abbrev pub IsToldOf : Result Config Said → (old new : List ℕ) → Type 0
IsToldOf (Ok config) old new = new ≡ old
IsToldOf (Err wrong) old new = (new ≡ wrong.text) × (wrong.outcome ≡ Faulted)

-- whether it is the last line, or want of memory, as a line tells it
abbrev pub stopped : (is_last : Bool) → Result (Unit {0}) AllocError → Result Bool Stop
stopped is_last (Ok done) = Ok is_last
stopped is_last (Err lack) = Err stop.Memory

-- what holds the step back that was taken, where it has left this; the last line has no step
abbrev pub held_by : Explaining → (is_last : Bool) → Wire → Taken → List ℕ
held_by explained true wire taken = []
held_by explained false wire taken = explained wire taken.step taken.told.reply

-- a line was taken, and what it expects is to be compared with its answer; or it is wrong, and changes nothing
abbrev pub AnswersLine : Explaining → Running → (line : ℕ) → List (List ℕ) → Running → (told answer expected : List ℕ) → Taken → Result Bool Stop → Type 0
AnswersLine explained before line words after told answer expected taken (Ok is_last) =
    (count : ℕ) (rest : ℕ → Bool → At → Said) → test_step explained before line words count rest
    ≡ test_made (not (is_none (parts_of words).expected)) line told answer (held_by explained is_last after.seen taken) expected count
    (λ more. rest more is_last (behind_line after))
AnswersLine explained before line words after told answer expected taken (Err stop.Memory) = Unit {0}
AnswersLine explained before line words after told answer expected taken (Err (stop.Wrong wrong)) =
    (after ≡ before)
    × ((count : ℕ) (rest : ℕ → Bool → At → Said) → test_step explained before line words count rest
    ≡ faulty (fault_of before.known line words wrong ∷ []))

-- ---- The words of a line, be it a step, the config or nothing

-- its line of a scenario was appended, or it is wrong, and that alone is written
abbrev pub WordsPlain : At → Line → (old new : List ℕ) → At → Result Bool AllocError → Type 0
WordsPlain before line old new after (Ok true) =
    (text : List ℕ) × (new ≡ old ++ text)
    × ((out : List ℕ) (rest : List ℕ → At → Said) → plain_line before line out rest (script_words line.1) ≡ rest (out ++ text) after)
WordsPlain before line old new after (Ok false) =
    (said : Said) × IsSaid said new (Ok Faulted) × ((out : List ℕ) (rest : List ℕ → At → Said) → plain_line before line out rest (script_words line.1) ≡ said)
WordsPlain before line old new after (Err lack) = Unit {0}

-- the answer is as expected, or nothing is expected, or it differs or the line is wrong, and that alone is written
abbrev pub ComparesWords : Explaining → At → (was_past : Bool) → (line : ℕ) → List (List ℕ) → (old new : List ℕ) → (is_past : Bool) → At
    → Result Compared AllocError
    → Type 0
ComparesWords explained before was_past line words old new is_past after (Ok Same) =
    (new ≡ old) × ((text : List ℕ) (count : ℕ) (rest : ℕ → Bool → At → Said)
    → test_line explained before was_past (line, text) count rest words ≡ rest (count + 1) is_past after)
ComparesWords explained before was_past line words old new is_past after (Ok NotExpected) =
    (new ≡ old) × ((text : List ℕ) (count : ℕ) (rest : ℕ → Bool → At → Said)
    → test_line explained before was_past (line, text) count rest words ≡ rest count is_past after)
ComparesWords explained before was_past line words old new is_past after (Ok Differs) =
    (said : Said) × (said.outcome ≡ Faulted) × (new ≡ old ++ said.text)
    × ((text : List ℕ) (count : ℕ) (rest : ℕ → Bool → At → Said) → test_line explained before was_past (line, text) count rest words ≡ said)
ComparesWords explained before was_past line words old new is_past after (Err lack) = Unit {0}
