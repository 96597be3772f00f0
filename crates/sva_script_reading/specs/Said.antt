-- What a command says of a script: a text, and how it ends.
use Rattle.std.specs.Prelude.{IfOk, Option, ◌≡◌, ℕ, List, flat_map, Result, Ok, Err}
use Rattle.std.specs.declared.alloc.AllocError.{AllocError}
use Rattle.sva_streams.specs.declared.streams.DriveFault.{DriveFault}
use Rattle.sva_streams.specs.declared.streams.Outcome.{Outcome}
use Rattle.sva_streams.specs.declared.streams.Outcome.TheVariants.{Done, Faulted}
use Rattle.sva_streams.specs.Streams.{Writes}
use Rattle.sva_script_reading.specs.Faults.{Fault, fault_text}

pub record Said : Type 0 where
  pub text : List ℕ
  pub outcome : Outcome

-- all is well
abbrev pub well : List ℕ → Said
well text = record { text = text; outcome = Done }

-- something is wrong, and this is said of it
abbrev pub bad : List ℕ → Said
bad text = record { text = text; outcome = Faulted }

-- these lines are wrong
abbrev pub faults_text : List Fault → List ℕ
faults_text faults = flat_map fault_text faults

abbrev pub faulty : List Fault → Said
faulty faults = bad (faults_text faults)

-- the whole was written, unless memory lacked
abbrev pub IsSaid : Said → (out : List ℕ) → Result Outcome AllocError → Type 0
IsSaid said out (Ok outcome) = (outcome ≡ said.outcome) × (out ≡ said.text)
IsSaid said out (Err lack) = Unit {0}

-- it was written, and the outcome is its own; or a prefix of it, where the result is a fault
abbrev pub Prints : Said → Option (List ℕ) → Option (List ℕ) → Result Outcome DriveFault → Type 0
Prints said old new result = Writes old new said.text result × IfOk result (λ outcome. outcome ≡ said.outcome)
