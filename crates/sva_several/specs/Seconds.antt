-- How long something has taken, on a terminal.
use Rattle.std.specs.Prelude.{ℕ, List, [], ◌++◌, Option, Some, None, codes, decimal}

-- if that is known
abbrev pub seconds_text : Option ℕ → List ℕ
seconds_text None = []
seconds_text (Some seconds) = codes ", " ++ decimal seconds ++ codes " s"
