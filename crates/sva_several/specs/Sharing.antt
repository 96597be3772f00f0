-- Texts that are searched at once share one limit of moments: each is searched with its share first, and one whose search was cut off is
-- searched again, with all moments.
use Rattle.std.specs.Global.{Global}
use Rattle.std.specs.Prelude.{◌≡◌, ◌<◌, ◌/◌, ◌⊎◌, ℕ, true, false, get_or, length, max, min, Vec, List, All, IfOk, Option, Some, None, Result}
use Rattle.std.specs.declared.alloc.AllocError.{AllocError}
use Rattle.sva_several.specs.declared.given.Given.{Given}
use Rattle.sva_several.specs.declared.searching.Said.{Said}
use Rattle.sva_several.specs.declared.searching.Search.{Search}
use Rattle.sva_several.specs.declared.searching.Search.TheVariants.{Drivers, Races}
use Rattle.sva_several.specs.declared.sharing.First.{First}
use Rattle.sva_several.specs.declared.sharing.First.TheVariants as first
use Rattle.sva_several.specs.declared.working.Answer.{Answer}
use Rattle.sva_several.specs.Searches.{IsSaid, Tries}

-- ---- Shares

-- how many texts are searched at once
abbrev pub at_once : (jobs count : ℕ) → ℕ
at_once jobs count = max 1 (min jobs count)

-- how many moments each of them has
abbrev pub share_of : (most jobs : ℕ) → ℕ
share_of most jobs = min most (max 1 (most / jobs))

abbrev pub shared : Search → (jobs : ℕ) → Search
shared (Races most) jobs = Races (share_of most jobs)
shared (Drivers most all strict) jobs = Drivers (share_of most jobs) all strict
shared search jobs = search

-- ---- What is said of a text

-- a search with its share says it, and wasn't cut off
abbrev pub IsEnded : Search → (jobs : ℕ) → (text : Given) → Said → Type 0
IsEnded search jobs text said = Tries (shared search jobs) text said true

-- a search with its share was cut off
abbrev pub IsCut : Search → (jobs : ℕ) → (text : Given) → Type 0
IsCut search jobs text = (said : Said) × Tries (shared search jobs) text said false

-- a search with its share says it; or that was cut off, and one with all moments says it
abbrev pub IsSaidBy : Search → (jobs : ℕ) → (text : Given) → Said → Type 0
IsSaidBy search jobs text said = IsEnded search jobs text said ⊎ (IsCut search jobs text × IsSaid search text said)

-- where memory didn't lack
abbrev pub IsFoundBy : Search → (jobs : ℕ) → Given → Result Said AllocError → Type 0
IsFoundBy search jobs text found = IfOk found (IsSaidBy search jobs text)

-- ---- First searches

abbrev pub IsFirst : Search → (jobs : ℕ) → (text : Given) → First → Type 0
IsFirst search jobs text (first.Said said) = IsSaidBy search jobs text said
IsFirst search jobs text first.Cut = IsCut search jobs text

abbrev pub IsBegun : Search → (jobs : ℕ) → (text : Given) → Result First AllocError → Type 0
IsBegun search jobs text began = IfOk began (IsFirst search jobs text)

-- the first search of the text of a place
abbrev pub IsAnswer : Search → (jobs : ℕ) → (texts : List Given) → Answer → Type 0
IsAnswer search jobs texts answer =
    (answer.place < length texts)
    × ((text : Given) → text ≡ get_or texts answer.place text → IsBegun search jobs text answer.began)

abbrev pub AreAnswers : Search → (jobs : ℕ) → (texts : List Given) → Vec Answer Global → Type 0
AreAnswers search jobs texts answers = All (IsAnswer search jobs texts) answers.items

-- a text's first search, if it was made
abbrev pub IsSlot : Search → (jobs : ℕ) → (text : Given) → Option (Result First AllocError) → Type 0
IsSlot search jobs text None = Unit {0}
IsSlot search jobs text (Some began) = IsBegun search jobs text began

-- for each text a place
pub record AreSlots (search : Search) (jobs : ℕ) (texts : List Given) (slots : List (Option (Result First AllocError))) : Type 0 where
  pub count : length slots ≡ length texts
  pub each : (place : ℕ) (text : Given) → place < length texts → text ≡ get_or texts place text
      → IsSlot search jobs text (get_or slots place None)
