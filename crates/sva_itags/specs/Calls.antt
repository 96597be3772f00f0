-- The calls that change the tags of a unit, and what holds after every list of them.
use Rattle.std.specs.Prelude.{◌≡◌, ℕ, ◌<◌, ◌≤◌, ◌↔◌, Option, Some, List, [], ◌∷◌, ◌++◌, length, All, IsTrue, if◌then◌else◌}
use Rattle.sva_step.specs.Limits
use Rattle.sva_itags.specs.Vector.{is_named}
use Rattle.sva_itags.specs.Tags.{AreTags, IsBusy, all_free, lowest_free, taken, completed, freed_vector}
use Rattle.sva_itags.specs.declared.itags.Busy.{Busy}

-- `take`, `arrived` and `clear`; the other calls only read
pub data Call : Type 0 where
  Take : Call
  Arrived : (vector count : ℕ) → Call
  Clear : Call

-- the tags after a call
abbrev pub after : List (Option Busy) → Call → List (Option Busy)
after places Take = taken places
after places (Arrived vector count) = completed vector count places
after places Clear = all_free

-- the tags after a list of calls
abbrev pub after_all : List (Option Busy) → List Call → List (Option Busy)
after_all places [] = places
after_all places (call ∷ calls) = after_all (after places call) calls

-- a count of completions is 1 to 8
abbrev pub IsPermitted : Call → Type 0
IsPermitted (Arrived vector count) = (0 < count) × (count ≤ Limits.most_completions)
IsPermitted _ = Unit {0}

-- After every list of calls there are 32 tags, each of them free or busy with fewer completions than its count.
abbrev pub AlwaysTags : Type 0
AlwaysTags = (calls : List Call) → All IsPermitted calls → AreTags (after_all all_free calls)

-- the counts of the completions that name a tag, in order of arrival
abbrev pub counts_for : ℕ → List Call → List ℕ
counts_for tag [] = []
counts_for tag (Arrived vector count ∷ calls) =
    if is_named vector tag then count ∷ counts_for tag calls else counts_for tag calls
counts_for tag (_ ∷ calls) = counts_for tag calls

-- no tags are cleared
abbrev pub IsNoClear : Call → Type 0
IsNoClear Clear = ⊥
IsNoClear _ = Unit {0}

-- fewer completions than the first one's count
abbrev pub AreShort : List ℕ → Type 0
AreShort [] = Unit {0}
AreShort (count ∷ counts) = length (count ∷ counts) < count

-- as many completions as the first one's count
abbrev pub AreWhole : List ℕ → Type 0
AreWhole [] = ⊥
AreWhole (count ∷ counts) = length (count ∷ counts) ≡ count

-- a tag to which completions with these counts have come is busy, and one completion more frees it exactly where it
-- brings their number to the first one's count
abbrev pub IsFreedInTurn : List (Option Busy) → ℕ → List ℕ → Type 0
IsFreedInTurn places tag counts =
    IsBusy places tag
    × ((vector count : ℕ) → IsTrue (is_named vector tag)
    → IsTrue (is_named (freed_vector vector count places) tag) ↔ AreWhole (counts ++ count ∷ []))

-- A tag that was taken is busy while fewer completions name it than the first one's count, and it is freed by the one
-- that brings their number up to that count: after every list of calls, a `take` that gave the tag, and every list of
-- calls without `clear`.
abbrev pub FreedAtItsCount : Type 0
FreedAtItsCount =
    (before calls : List Call) (tag : ℕ) → lowest_free (after_all all_free before) ≡ Some tag → All IsNoClear calls
    → AreShort (counts_for tag calls)
    → IsFreedInTurn (after_all (taken (after_all all_free before)) calls) tag (counts_for tag calls)
