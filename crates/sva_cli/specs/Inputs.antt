-- Which names are that of standard input.
use Rattle.std.specs.Prelude.{ℕ, ◌+◌, if◌then◌else◌, Bool, List, [], ◌∷◌, codes}
use Rattle.std.specs.Str.{bytes_eq}
use Rattle.clap.specs.Words.{Text}

abbrev pub is_input : Text → Bool
is_input name = bytes_eq name (codes "-")

abbrev pub one_if : Bool → ℕ
one_if so = if so then 1 else 0

-- how many of them are
unfoldable pub inputs_in : List Text → ℕ
inputs_in [] = 0
inputs_in (name ∷ names) = one_if (is_input name) + inputs_in names
