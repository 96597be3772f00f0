-- Which endpoints stand below one unit, and the words for each unit that several share.
use Rattle.std.specs.Prelude.{ℕ, ◌+◌, ◌==◌, ◌||◌, nat_lt, if◌then◌else◌, Bool, List, [], ◌∷◌, ◌++◌, codes, count_by}
use Rattle.sva_open.specs.Below.{is_beside}
use Rattle.sva_driver_words.specs.Pieces.{and_number}

-- is it the endpoint itself, or does it stand below the same unit?
abbrev pub is_below : (units : List ℕ) → (endpoint other : ℕ) → Bool
is_below units endpoint other = other == endpoint || is_beside units endpoint other

-- ---- `unit E E ..`

abbrev pub is_shared : (units : List ℕ) → (unit : ℕ) → Bool
is_shared units unit = nat_lt 1 (count_by (λ own. own == unit) units)

-- an endpoint that stands below the unit
abbrev pub member_text : (unit place own : ℕ) → List ℕ
member_text unit place own = if own == unit then and_number place else []

unfoldable pub members_from : (unit place : ℕ) → List ℕ → List ℕ
members_from unit place [] = []
members_from unit place (own ∷ rest) = member_text unit place own ++ members_from unit (place + 1) rest

abbrev pub unit_text : (units : List ℕ) → (unit : ℕ) → List ℕ
unit_text units unit = codes "unit" ++ members_from unit 0 units

-- where it is shared, with what stands before it and behind it
abbrev pub shared_text : (units : List ℕ) → (before behind : List ℕ) → (unit : ℕ) → List ℕ
shared_text units before behind unit = if is_shared units unit then before ++ unit_text units unit ++ behind else []

-- those from a number on; each is the number of the lowest endpoint below it
unfoldable pub shared_from : (units : List ℕ) → (before behind : List ℕ) → (unit : ℕ) → (rest : List ℕ) → List ℕ
shared_from units before behind unit [] = []
shared_from units before behind unit (own ∷ rest) =
    shared_text units before behind unit ++ shared_from units before behind (unit + 1) rest

abbrev pub units_text : (units : List ℕ) → (before behind : List ℕ) → List ℕ
units_text units before behind = shared_from units before behind 0 units
