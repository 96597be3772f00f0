-- What a call leaves in its caller's hands: a buffer, the length that it would need, and a status.
use Rattle.std.specs.Prelude.{◌≡◌, ◌⊎◌, ℕ, ◌++◌, nat_le, if◌then◌else◌, List, drop, length, take}
use Rattle.sva_streams.specs.declared.streams.Outcome.{Outcome}
use Rattle.sva_streams.specs.declared.streams.Outcome.TheVariants.{Done, Faulted}
use Rattle.sva_reports.specs.Report.{check_of, check_outcome_of, outcome_of, report_of}
use Rattle.sva_script_reading.specs.Said.{Said}
use Rattle.sva_c.specs.declared.statuses.TheConstants.{DONE, FAULTED, NO_MEMORY, TOO_SMALL}

-- what `replay` and `check` say of a text, and how they end
abbrev pub replay_said : List ℕ → Said
replay_said text = record { text = report_of text; outcome = outcome_of text }

abbrev pub check_said : List ℕ → Said
check_said text = record { text = check_of text; outcome = check_outcome_of text }

-- how a run whose report fits is told
abbrev pub status_of : Outcome → ℕ
status_of Done = DONE
status_of Faulted = FAULTED

-- a buffer into which a report was put: of the report what fits, and behind it what was there
abbrev pub filled : (report old : List ℕ) → List ℕ
filled report old = take (length old) report ++ drop (length report) old

-- The report was handed over: the buffer has what fits of it, its length is told, and the status is that of the run, or
-- that the buffer is too small.
abbrev pub IsHandedOver : (report : List ℕ) → (ended : ℕ) → (old new : List ℕ) → (needed status : ℕ) → Type 0
IsHandedOver report ended old new needed status =
    (new ≡ filled report old)
    × (needed ≡ length report)
    × (status ≡ (if nat_le (length report) (length old) then ended else TOO_SMALL))

-- memory ran out: the buffer is as it was
abbrev pub LacksMemory : (old new : List ℕ) → (needed status : ℕ) → Type 0
LacksMemory old new needed status = (new ≡ old) × (needed ≡ 0) × (status ≡ NO_MEMORY)

-- what a call comes to, where the definitions say this of its text
abbrev pub Gives : Said → (old new : List ℕ) → (needed status : ℕ) → Type 0
Gives said old new needed status =
    IsHandedOver said.text (status_of said.outcome) old new needed status ⊎ LacksMemory old new needed status
