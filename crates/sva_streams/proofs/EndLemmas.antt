-- What a run tells of its streams: its input was read to the end without a failure, and what was written then tells its own.
use Rattle.std.proofs.Common.{◌≡◌, ◌∙◌, arith, ℕ, Result, Ok, Err, OnOk}
use Rattle.sva_streams.specs.Streams.{Stream, Tells}
use Rattle.sva_streams.specs.declared.streams.DriveFault.{DriveFault}
use Rattle.sva_streams.specs.declared.streams.DriveFault.TheVariants.{Read, Write, Memory}

pub ends_well : {A W : Type 0} (failures : ℕ) (AtEnd : Type 0) (old new : Stream W) (result : Result A DriveFault)
    → (failures ≡ 0) × AtEnd → old.failures ≡ 0 → Tells old new result → OnOk result ((failures ≡ 0) × AtEnd × (new.failures ≡ 0))
ends_well failures AtEnd old new (Ok x) read none told = (read.0, read.1, told ∙ none)
ends_well failures AtEnd old new (Err fault) read none told = tt

pub ends_not_by_reading : {A W : Type 0} (old new : Stream W) (result : Result A DriveFault) → Tells old new result → result ≡ Err Read → ⊥
ends_not_by_reading old new (Ok x) told is = absurd (cc is)
ends_not_by_reading old new (Err Read) told is = told
ends_not_by_reading old new (Err Write) told is = absurd (cc is)
ends_not_by_reading old new (Err Memory) told is = absurd (cc is)

pub ends_by_writing : {A W : Type 0} (failures : ℕ) (old new : Stream W) (result : Result A DriveFault)
    → failures ≡ 0 → old.failures ≡ 0 → Tells old new result → result ≡ Err Write → (failures ≡ 0) × (new.failures ≡ 1)
ends_by_writing failures old new (Ok x) read none told is = absurd (cc is)
ends_by_writing failures old new (Err Read) read none told is = absurd told
ends_by_writing failures old new (Err Write) read none told is = (read, omega (arith, told, none))
ends_by_writing failures old new (Err Memory) read none told is = absurd (cc is)

pub ends_for_memory : {A W : Type 0} (failures : ℕ) (old new : Stream W) (result : Result A DriveFault)
    → failures ≡ 0 → old.failures ≡ 0 → Tells old new result → result ≡ Err Memory → (failures ≡ 0) × (new.failures ≡ 0)
ends_for_memory failures old new (Ok x) read none told is = absurd (cc is)
ends_for_memory failures old new (Err Read) read none told is = absurd told
ends_for_memory failures old new (Err Write) read none told is = absurd (cc is)
ends_for_memory failures old new (Err Memory) read none told is = (read, told ∙ none)
