-- What stands on a terminal while a search goes on.
use Rattle.std.specs.Prelude.{ℕ, List, ◌∷◌, ◌++◌, Option, codes, decimal}
use Rattle.sva_several.specs.Seconds.{seconds_text}

-- a return to the first column, how many moments were looked at, how many choices lead to the one that is next, and how
-- many seconds that took
abbrev pub progress_line : (moments : ℕ) → (depth : ℕ) → (seconds : Option ℕ) → List ℕ
progress_line moments depth seconds =
    13 ∷ codes "svahost: " ++ decimal moments ++ codes " moments, " ++ decimal depth ++ codes " deep" ++ seconds_text seconds
