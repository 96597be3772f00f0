-- What the calls that read a script before it is run make of it.
use Rattle.std.specs.Prelude.{◌≡◌, ℕ, Bool, List, [], ◌++◌, Option, Some, None, Result, Ok, Err}
use Rattle.sva_step.specs.declared.limits.Config.{Config}
use Rattle.sva_streams.specs.declared.streams.Outcome.TheVariants.{Faulted}
use Rattle.sva_script.specs.Lines.{parts_of}
use Rattle.sva_script.specs.Names.{Known}
use Rattle.sva_script_reading.specs.Faults.{Fault, fault_text}
use Rattle.sva_script_reading.specs.Said.{Said, faults_text}
use Rattle.sva_script_reading.specs.Begins.{Line, faults_at, faults_read}
use Rattle.sva_script_reading.specs.Lines.{line_read}
use Rattle.sva_script_reading.specs.Messages.{link_of}

-- the config is given and nothing written, or what is said instead
abbrev pub BeginsWith : Result Config Said → Option Config → (out : List ℕ) → Type 0
BeginsWith (Ok config) (Some found) out = (found ≡ config) × (out ≡ [])
BeginsWith (Err said) None out = (said.outcome ≡ Faulted) × (out ≡ said.text)
BeginsWith begin found out = ⊥

-- the config is given and nothing appended, or what is wrong with it
abbrev pub ReadsConfig : Result Config Fault → Option Config → (old new : List ℕ) → Type 0
ReadsConfig (Ok config) (Some found) old new = (found ≡ config) × (new ≡ old)
ReadsConfig (Err fault) None old new = new ≡ old ++ fault_text fault
ReadsConfig read found old new = ⊥

-- and these lines are left
abbrev pub HasConfig : Result (Config × List Line) Fault → Option Config → (left : List Line) → (old new : List ℕ) → Type 0
HasConfig (Ok (config, lines)) (Some found) left old new = (found ≡ config) × (left ≡ lines) × (new ≡ old)
HasConfig (Err fault) None left old new = new ≡ old ++ fault_text fault
HasConfig begin found left old new = ⊥

-- what is wrong with a line is appended, and those behind it are read from these names on
abbrev pub ReadsWords : Known → (line : ℕ) → List (List ℕ) → Known → (is_last : Bool) → (before after : List ℕ) → Type 0
ReadsWords old line words new is_last before after =
    (found : List Fault)
    × ((rest : Known → Bool → List Fault) → faults_read old line words rest (line_read old (link_of None) (parts_of words)) ≡ found ++ rest new is_last)
    × (after ≡ before ++ faults_text found)

-- the same of a line that may say nothing, or stand behind the last
abbrev pub ReadsLine : Known → (is_past : Bool) → (line : ℕ) → List (List ℕ) → Known → (ended : Bool) → (before after : List ℕ) → Type 0
ReadsLine old is_past line words new ended before after =
    (found : List Fault)
    × ((rest : Known → Bool → List Fault) → faults_at old is_past line rest words ≡ found ++ rest new ended)
    × (after ≡ before ++ faults_text found)
