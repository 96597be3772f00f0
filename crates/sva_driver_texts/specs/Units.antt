-- `unit E E ..`: endpoints that stand below one unit.
use Rattle.std.specs.Prelude.{ℕ, zero, suc, ◌+◌, ◌==◌, ◌||◌, nat_lt, if◌then◌else◌, Bool, List, [], ◌∷◌, ◌++◌, count_by, drop, map}
use Rattle.std.specs.Prelude.{slice_index_or, Result, Ok}
use Rattle.sva_step.specs.declared.limits.Config.{Config}
use Rattle.sva_grammar.specs.Grammar.{◌>>=◌}
use Rattle.sva_race_texts.specs.declared.faults.RaceWanted.TheVariants as race
use Rattle.sva_driver_words.specs.Faults.{wrong_at}
use Rattle.sva_driver_words.specs.Fields.{endpoint_at, has_word}
use Rattle.sva_driver_words.specs.declared.faults.DriverWanted.TheVariants as wanted
use Rattle.sva_driver_words.specs.declared.faults.DriverWrong.{DriverWrong}

-- Each endpoint stands below a unit of its own, until it is said that it shares one. A unit has the number of the lowest endpoint
-- below it.
unfoldable pub numbers_below : (count : ℕ) → List ℕ
numbers_below zero = []
numbers_below (suc endpoint) = numbers_below endpoint ++ endpoint ∷ []

abbrev pub units_or_own : Config → (units : List ℕ) → List ℕ
units_or_own config [] = numbers_below config.endpoints
units_or_own config (unit ∷ units) = unit ∷ units

-- does it share its unit with none? One that does and isn't the lowest gives no unit its number.
abbrev pub is_alone : (units : List ℕ) → (endpoint : ℕ) → Bool
is_alone units endpoint = count_by (λ own. own == endpoint) units == 1

abbrev pub alone_at : Config → (units : List ℕ) → (at : ℕ) → List (List ℕ) → Result ℕ DriverWrong
alone_at config units at words = do
  endpoint ← endpoint_at config at words
  if is_alone units endpoint then Ok endpoint else wrong_at at wanted.Unshared

-- a further one is another than the first
abbrev pub further_at : Config → (units : List ℕ) → (first at : ℕ) → List (List ℕ) → Result ℕ DriverWrong
further_at config units first at words = do
  endpoint ← alone_at config units at words
  if endpoint == first then wrong_at at wanted.Unshared else Ok endpoint

-- two units come to be one
abbrev pub lower : (unit other : ℕ) → ℕ
lower unit other = if nat_lt other unit then other else unit

abbrev pub joined_one : (unit other own : ℕ) → ℕ
joined_one unit other own = if own == unit || own == other then lower unit other else own

abbrev pub joined : (units : List ℕ) → (unit other : ℕ) → List ℕ
joined units unit other = map (joined_one unit other) units

-- with a further endpoint below the unit of the first
abbrev pub with_further : Config → (units : List ℕ) → (first at : ℕ) → List (List ℕ) → Result (List ℕ) DriverWrong
with_further config units first at words =
    further_at config units first at words >>= λ other. Ok (joined units (slice_index_or units first first) other)

-- so many words from a place on
unfoldable pub further_from : Config → (first at : ℕ) → (units : List ℕ) → (rest : List (List ℕ)) → List (List ℕ)
    → Result (List ℕ) DriverWrong
further_from config first at units [] words = Ok units
further_from config first at units (word ∷ rest) words =
    with_further config units first at words >>= λ more. further_from config first (at + 1) more rest words

abbrev pub all_further : Config → (units : List ℕ) → (first : ℕ) → List (List ℕ) → Result (List ℕ) DriverWrong
all_further config units first words =
    if has_word 2 words
    then further_from config first 2 units (drop 2 words) words
    else wrong_at 2 (wanted.Race race.OfConfig)

-- the units behind the line, of those that were there before it
abbrev pub units_of : Config → (units : List ℕ) → List (List ℕ) → Result (List ℕ) DriverWrong
units_of config units words = alone_at config units 1 words >>= λ first. all_further config units first words
