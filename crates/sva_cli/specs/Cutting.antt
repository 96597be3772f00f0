-- The front of a text, up to a line.
use Rattle.std.specs.Prelude.{ℕ, ◌==◌, ◌-◌, if◌then◌else◌, List, [], ◌∷◌, Option, Some, None}

-- how many lines are left behind a byte: LF (10) ends one
abbrev pub left_behind : (left byte : ℕ) → ℕ
left_behind left byte = if byte == 10 then left - 1 else left

-- the first lines, so many
unfoldable pub first_lines : (count : ℕ) → List ℕ → List ℕ
first_lines count [] = []
first_lines count (byte ∷ text) = if count == 0 then [] else byte ∷ first_lines (left_behind count byte) text

abbrev pub cut : Option ℕ → List ℕ → List ℕ
cut None text = text
cut (Some count) text = first_lines count text
