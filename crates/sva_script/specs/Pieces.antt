-- What is appended to a text, where that can't be for a line that is wrong or for want of memory.
use Rattle.std.specs.Prelude.{◌≡◌, ℕ, List, ◌∷◌, ◌++◌, Result, Ok, Err}
use Rattle.sva_script.specs.declared.faults.Stop.{Stop}
use Rattle.sva_script.specs.declared.faults.Stop.TheVariants as stop
use Rattle.sva_script.specs.declared.faults.Wrong.{Wrong}

-- a text is appended; memory may lack
abbrev pub Puts : {A : Type 0} → List ℕ → List ℕ → List ℕ → Result A Stop → Type 0
Puts text old new (Ok done) = new ≡ old ++ text
Puts text old new (Err stop.Memory) = Unit {0}
Puts text old new (Err (stop.Wrong fault)) = ⊥

-- what is read of a line is appended, or the line is wrong there
abbrev pub PutsRead : {A : Type 0} → Result (List ℕ) Wrong → List ℕ → List ℕ → Result A Stop → Type 0
PutsRead (Ok text) old new result = Puts text old new result
PutsRead (Err fault) old new (Ok done) = ⊥
PutsRead (Err fault) old new (Err stop.Memory) = Unit {0}
PutsRead (Err fault) old new (Err (stop.Wrong found)) = found ≡ fault

-- one text behind another; the first that can't be read stands for both
abbrev pub joined : Result (List ℕ) Wrong → Result (List ℕ) Wrong → Result (List ℕ) Wrong
joined (Ok text) (Ok rest) = Ok (text ++ rest)
joined (Ok text) (Err fault) = Err fault
joined (Err fault) rest = Err fault

-- a text behind a space (32)
abbrev pub spaced : Result (List ℕ) Wrong → Result (List ℕ) Wrong
spaced (Ok text) = Ok (32 ∷ text)
spaced (Err fault) = Err fault
