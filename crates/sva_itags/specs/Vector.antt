-- An ITag Vector has 32 bits and names a set of tags: bit T stands for tag T (PCI Express Base 5.0, section 10.3.2).
use Rattle.std.specs.Prelude.{ℕ, ◌+◌, ◌*◌, ◌==◌, Bool, List, [], ◌∷◌, if◌then◌else◌}
use Rattle.std.specs.Int.{bit_at}

-- whether a vector names a tag
abbrev pub is_named : ℕ → ℕ → Bool
is_named vector tag = bit_at vector tag == 1

-- the vector that names the places at which a list has true
abbrev pub vector_of : List Bool → ℕ
vector_of [] = 0
vector_of (named ∷ rest) = (if named then 1 else 0) + 2 * vector_of rest
