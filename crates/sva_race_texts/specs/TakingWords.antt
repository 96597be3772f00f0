-- What a call makes of words: what was read, or what is wrong there.
use Rattle.std.specs.Prelude.{◌≡◌, List, [], ◌∷◌, ◌++◌, map, Result, Ok, Err}
use Rattle.sva_race_texts.specs.declared.faults.RaceStop.{RaceStop}
use Rattle.sva_race_texts.specs.declared.faults.RaceStop.TheVariants as stop
use Rattle.sva_race_texts.specs.declared.faults.RaceWrong.{RaceWrong}

-- this is wrong with them; memory may lack
abbrev pub Fails : {A : Type 0} → Result A RaceWrong → RaceStop → Type 0
Fails read (stop.Wrong found) = read ≡ Err found
Fails read stop.Memory = Unit {0}

-- what they say is given, seen by its lists; or what is wrong with them
abbrev pub Gives : {A B : Type 0} → (seen : B → A) → Result A RaceWrong → Result B RaceStop → Type 0
Gives seen read (Ok found) = read ≡ Ok (seen found)
Gives seen read (Err why) = Fails read why

-- they are right, or this is wrong with them
abbrev pub Judges : Result (Unit {0}) RaceWrong → Result (Unit {0}) RaceStop → Type 0
Judges read (Ok done) = read ≡ Ok tt
Judges read (Err why) = Fails read why

-- a list with what was read at its end
abbrev pub appended : {A : Type 0} → List A → Result A RaceWrong → Result (List A) RaceWrong
appended list (Ok value) = Ok (list ++ value ∷ [])
appended list (Err wrong) = Err wrong

-- what they say is appended, seen by its lists; or what is wrong with them
abbrev pub Adds : {A B : Type 0} → (seen : B → A) → Result A RaceWrong → (old new : List B)
    → Result (Unit {0}) RaceStop → Type 0
Adds seen read old new (Ok done) = appended (map seen old) read ≡ Ok (map seen new)
Adds seen read old new (Err why) = Fails read why
