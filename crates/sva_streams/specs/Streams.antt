-- What is read from a reader and written to a writer, where their bytes are known.
use Rattle.std.specs.Prelude.{◌≡◌, ℕ, ◌+◌, ◌<◌, List, length, ◌++◌, Option, Result, Ok, Err}
use Rattle.std.specs.Io.KnownBytes.{Appends}
use Rattle.sva_streams.specs.declared.streams.DriveFault.{DriveFault}
use Rattle.sva_streams.specs.declared.streams.DriveFault.TheVariants.{Read, Write, Memory}

-- A reader or a writer as contracts see it: what it is itself, how many calls of it were made, and how many of these failed.
pub record Stream (T : Type 0) : Type 0 where
  pub inner : T
  pub calls : ℕ
  pub failures : ℕ

-- no call was made yet
abbrev pub IsNew : {T : Type 0} → Stream T → Type 0
IsNew stream = (stream.calls ≡ 0) × (stream.failures ≡ 0)

-- known bytes grow by a prefix of some bytes
abbrev pub AppendsPrefix : Option (List ℕ) → Option (List ℕ) → List ℕ → Type 0
AppendsPrefix old new bytes = (front : List ℕ) × (rest : List ℕ) × (front ++ rest ≡ bytes) × Appends old new front

-- known bytes grow by a prefix of some bytes, and not by all of them
abbrev pub AppendsProperPrefix : Option (List ℕ) → Option (List ℕ) → List ℕ → Type 0
AppendsProperPrefix old new bytes = (front : List ℕ) × (rest : List ℕ) × (front ++ rest ≡ bytes) × Appends old new front × (0 < length rest)

-- known bytes grow by some bytes, or by a prefix of them where the result is a fault
abbrev pub Writes : {A : Type 0} → Option (List ℕ) → Option (List ℕ) → List ℕ → Result A DriveFault → Type 0
Writes old new bytes (Ok value) = Appends old new bytes
Writes old new bytes (Err fault) = AppendsPrefix old new bytes

-- A text is said behind what was held back: some of both was written, and the rest is held back; where the result is a fault, a prefix of both
-- was written.
abbrev pub Holds : {A : Type 0} → (old new : Option (List ℕ)) → (held left text : List ℕ) → Result A DriveFault → Type 0
Holds old new held left text (Ok value) = (sent : List ℕ) × Appends old new sent × (sent ++ left ≡ held ++ text)
Holds old new held left text (Err fault) = AppendsPrefix old new (held ++ text)

-- the writer's failures are told: one more where the fault is `Write`, and none where there is no fault or memory lacks
abbrev pub Tells : {A W : Type 0} → Stream W → Stream W → Result A DriveFault → Type 0
Tells old new (Ok value) = new.failures ≡ old.failures
Tells old new (Err Read) = ⊥
Tells old new (Err Write) = new.failures ≡ old.failures + 1
Tells old new (Err Memory) = new.failures ≡ old.failures
