-- What a call makes of words or of a line: what was read, or what is wrong there.
use Rattle.std.specs.Prelude.{◌≡◌, List, [], ◌∷◌, ◌++◌, map, Result, Ok, Err}
use Rattle.sva_driver_words.specs.declared.faults.DriverStop.{DriverStop}
use Rattle.sva_driver_words.specs.declared.faults.DriverStop.TheVariants as stop
use Rattle.sva_driver_words.specs.declared.faults.DriverWrong.{DriverWrong}

-- this is wrong with them; memory may lack
abbrev pub Fails : {A : Type 0} → Result A DriverWrong → DriverStop → Type 0
Fails read (stop.Wrong found) = read ≡ Err found
Fails read stop.Memory = Unit {0}

-- what they say is given, seen by its lists; or what is wrong with them
abbrev pub Gives : {A B : Type 0} → (seen : B → A) → Result A DriverWrong → Result B DriverStop → Type 0
Gives seen read (Ok found) = read ≡ Ok (seen found)
Gives seen read (Err why) = Fails read why

-- a list with what was read at its end
abbrev pub appended : {A : Type 0} → List A → Result A DriverWrong → Result (List A) DriverWrong
appended list (Ok value) = Ok (list ++ value ∷ [])
appended list (Err wrong) = Err wrong

-- what they say is appended, seen by its lists; or what is wrong with them
abbrev pub Adds : {A B : Type 0} → (seen : B → A) → Result A DriverWrong → (old new : List B)
    → Result (Unit {0}) DriverStop → Type 0
Adds seen read old new (Ok done) = appended (map seen old) read ≡ Ok (map seen new)
Adds seen read old new (Err why) = Fails read why
