-- What a call makes of a line: what was read, or what is wrong there.
use Rattle.std.specs.Prelude.{◌≡◌, Result, Ok, Err}
use Rattle.sva_race_texts.specs.declared.faults.RaceStop.{RaceStop}
use Rattle.sva_race_texts.specs.declared.faults.RaceStop.TheVariants as stop
use Rattle.sva_race_texts.specs.declared.faults.RaceWrong.{RaceWrong}
use Rattle.sva_race_texts.specs.Readings.{Reading}

-- a line is read with what was read before; one that is wrong changes nothing, and after want of memory nothing is said
abbrev pub Takes : Result Reading RaceWrong → (old new : Reading) → Result (Unit {0}) RaceStop → Type 0
Takes read old new (Ok done) = read ≡ Ok new
Takes read old new (Err (stop.Wrong found)) = (read ≡ Err found) × (new ≡ old)
Takes read old new (Err stop.Memory) = Unit {0}
