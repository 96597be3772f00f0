-- Which words are near to one another, so that one of them is told where the other was written.
use Rattle.std.specs.Prelude.{ℕ, ◌-◌, ◌==◌, ◌&&◌, ◌||◌, nat_lt, if◌then◌else◌, Bool, List, [], ◌∷◌, length, drop, slice_index_or, Option}
use Rattle.std.specs.List.{find}
use Rattle.std.specs.Str.{bytes_eq}

-- have the first two letters changed places, and is all else the same?
abbrev pub is_swapped : List ℕ → List ℕ → Bool
is_swapped word other =
    nat_lt 1 (length word) && nat_lt 1 (length other)
    && slice_index_or word 0 0 == slice_index_or other 1 0
    && slice_index_or word 1 0 == slice_index_or other 0 0
    && bytes_eq (drop 2 word) (drop 2 other)

-- Of two words that begin with different letters: is one made of the other by another letter there, by one less or one more
-- there, or by its first two letters that change places?
abbrev pub is_changed : List ℕ → List ℕ → Bool
is_changed word other =
    bytes_eq (drop 1 word) (drop 1 other) || bytes_eq (drop 1 word) other || bytes_eq word (drop 1 other) || is_swapped word other

-- Is one of two words made of the other by one letter more, less or another, or by two neighbours that change places? It is
-- asked behind the letters that both begin with.
unfoldable pub is_one_off : List ℕ → List ℕ → Bool
is_one_off [] other = length other == 1
is_one_off (first ∷ rest) [] = length (first ∷ rest) == 1
is_one_off (first ∷ rest) (other_first ∷ other_rest) =
    if first == other_first then is_one_off rest other_rest else is_changed (first ∷ rest) (other_first ∷ other_rest)

-- have two words their first letter in common?
abbrev pub begin_alike : List ℕ → List ℕ → Bool
begin_alike word other = nat_lt 0 (length word) && nat_lt 0 (length other) && slice_index_or word 0 0 == slice_index_or other 0 0

-- and their last?
abbrev pub end_alike : List ℕ → List ℕ → Bool
end_alike word other =
    nat_lt 0 (length word) && nat_lt 0 (length other)
    && slice_index_or word (length word - 1) 0 == slice_index_or other (length other - 1) 0

-- are two words near? They differ by one letter or by two neighbours, and have their first letter or their last in common
abbrev pub is_near : List ℕ → List ℕ → Bool
is_near word other = (begin_alike word other || end_alike word other) && is_one_off word other

-- the first of some words that is near to a word
abbrev pub near_among : List (List ℕ) → List ℕ → Option (List ℕ)
near_among words word = find (λ reserved. is_near reserved word) words
