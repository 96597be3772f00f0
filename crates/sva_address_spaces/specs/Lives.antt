-- The live spaces by their numbers.
use Rattle.std.specs.Prelude.{ℕ, ◌+◌, ◌≤◌, ◌==◌, Bool, List, [], ◌∷◌, map, nat_lt, if◌then◌else◌}
use Rattle.sva_model.specs.Wire.{SpaceWire}
use Rattle.sva_space.specs.Calls.{count_in}
use Rattle.sva_address_spaces.specs.declared.live.LiveSpace.{LiveSpace}
use Rattle.sva_address_spaces.specs.Seen.{pages_seen}

-- is it the live space of this number?
abbrev pub is_of : (number : ℕ) → LiveSpace → Bool
is_of number live = live.number == number

-- a live space, by its number, with its mapped pages
abbrev pub space_seen : LiveSpace → SpaceWire
space_seen live = record { number = live.number; pages = pages_seen live.space }

-- the live spaces, in the order in which they began
abbrev pub spaces_seen : List LiveSpace → List SpaceWire
spaces_seen lives = map space_seen lives

-- how many spaces have a number
abbrev pub count_of : (number : ℕ) → List LiveSpace → ℕ
count_of number [] = 0
count_of number (live ∷ lives) = (if is_of number live then 1 else 0) + count_of number lives

-- how many pages of all spaces lead to a frame
abbrev pub count_all : (frame : ℕ) → List LiveSpace → ℕ
count_all frame [] = 0
count_all frame (live ∷ lives) = count_in frame live.space + count_all frame lives

-- each number below the next one is that of at most one space, and no other is given
abbrev pub AreNumbered : List LiveSpace → (next : ℕ) → Type 0
AreNumbered lives next = (number : ℕ) → count_of number lives ≤ (if nat_lt number next then 1 else 0)
