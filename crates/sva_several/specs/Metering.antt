-- What stands on a terminal while several texts are searched.
use Rattle.std.specs.Prelude.{ℕ, List, ◌∷◌, ◌++◌, Option, codes, decimal}
use Rattle.sva_several.specs.Seconds.{seconds_text}

-- how many were searched, of how many
abbrev pub share_text : (done all : ℕ) → List ℕ
share_text done all = decimal done ++ codes " of " ++ decimal all

-- a return to the first column, that, and how many seconds it took
abbrev pub meter_line : (done all : ℕ) → (seconds : Option ℕ) → List ℕ
meter_line done all seconds = 13 ∷ codes "svahost: " ++ share_text done all ++ codes " files searched" ++ seconds_text seconds
