-- How a list lies in a table of a fixed size: from one place on, and round the table's end.
use Rattle.std.specs.Prelude.{ℕ, List, ◌++◌, take, drop}

-- the table read from this place on, and round its end
abbrev pub read_from : {X : Type 0} → ℕ → List X → List X
read_from head places = drop head places ++ take head places

-- the items of this many places from this one on
abbrev pub window : {X : Type 0} → ℕ → ℕ → List X → List X
window head count places = take count (read_from head places)
