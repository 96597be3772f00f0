-- What is known of a chart. Of its drawing nothing is: where a script is right, some text is written.
use Rattle.std.specs.Prelude.{◌≡◌, ℕ, List, [], Option, Some, None, Result}
use Rattle.sva_streams.specs.declared.streams.DriveFault.{DriveFault}
use Rattle.sva_streams.specs.declared.streams.Outcome.{Outcome}
use Rattle.sva_streams.specs.declared.streams.Outcome.TheVariants.{Done, Faulted}
use Rattle.sva_script_reading.specs.Said.{Prints, Said}
use Rattle.sva_script_reports.specs.Shows.{show_of}

-- a chart of a script of which `show` says this: where something is wrong, the same is said
abbrev pub IsChart : (shown said : Said) → Type 0
IsChart shown said = (said.outcome ≡ shown.outcome) × (shown.outcome ≡ Faulted → said.text ≡ shown.text)

-- a chart of the script was written, or a prefix of it after a fault
abbrev pub Charts : (script : List ℕ) → (old new : Option (List ℕ)) → Result Outcome DriveFault → Type 0
Charts script old new result = (said : Said) × IsChart (show_of script) said × Prints said old new result

-- ---- What a call makes of a script

-- its rows were kept and nothing was written; or what is wrong with it was, and that alone
abbrev pub Collects : {A : Type 0} → (shown : Said) → (kept : Option A) → (out : List ℕ) → Type 0
Collects shown (Some rows) out = (shown.outcome ≡ Done) × (out ≡ [])
Collects shown None out = (shown.outcome ≡ Faulted) × (out ≡ shown.text)
