use Rattle.std.specs.Prelude.{◌≡◌, ◌≢◌, ℕ, ◌+◌, ◌<◌, true, false, List, [], ◌∷◌, ◌++◌, Option, Some, None, length, slice_get, slice_set, slice_index_or}
use Rattle.std.specs.Prelude.{position, count_by, MatchOption}
use Rattle.std.specs.List.{list_any}
use Rattle.sva_frames.specs.declared.waits.Target.{Target}
use Rattle.sva_frames.specs.declared.waits.TheConstants.{UNITS}
use Rattle.sva_frames.specs.Frames.{Holding, Free, Mapped, Withheld, is_free, is_mapped, is_withheld, has_target, after_waits, settled}
use Rattle.sva_frames.specs.Calls.{Call, Take, Withhold, opened, after, after_all, IsPermitted, ArePermitted, unsettled, spends}

-- Frames are divided: after any list of calls there are as many frames as were opened, each with one holding, and
-- those free, mapped and withheld are together all.
abbrev pub Divided : Type 0
Divided =
    (count : ℕ) (calls : List Call) → ArePermitted (opened count) calls →
    let frames = after_all (opened count) calls in
    (length frames ≡ count) × (count_by is_free frames + count_by is_mapped frames + count_by is_withheld frames ≡ count)

-- A withheld frame has at least one target, in a table of eight units.
abbrev pub WithheldWaits : Type 0
WithheldWaits =
    (count : ℕ) (calls : List Call) → ArePermitted (opened count) calls →
    (number : ℕ) (waits : List (Option Target)) → slice_get (after_all (opened count) calls) number ≡ Some (Withheld waits) →
    (length waits ≡ UNITS) × (has_target waits ≡ true)

-- What `take` answers is free, and no frame of a lower number is. It answers none only where none is free.
abbrev pub LowestFree : Type 0
LowestFree =
    (frames : List Holding) →
    MatchOption (position is_free frames)
    ((number : ℕ) → slice_get frames number ≢ Some Free)
    (λ lowest. (slice_get frames lowest ≡ Some Free) × ((number : ℕ) → number < lowest → slice_get frames number ≢ Some Free))

-- A frame that was taken is mapped as long as no call gives back or withholds one of its number. So its number isn't
-- handed out twice. This is said of the numbers of one pool: a call takes a frame of another pool for its own of that number.
abbrev pub MappedInHand : Type 0
MappedInHand =
    (count : ℕ) (before calls : List Call) (number : ℕ) → ArePermitted (opened count) (before ++ Take ∷ calls) →
    position is_free (after_all (opened count) before) ≡ Some number → list_any (spends number) calls ≡ false →
    slice_get (after_all (opened count) (before ++ Take ∷ calls)) number ≡ Some Mapped

-- A frame withheld with no target is free at once.
abbrev pub FreeAtOnce : Type 0
FreeAtOnce =
    (frames : List Holding) (number : ℕ) (waits : List (Option Target)) → IsPermitted frames (Withhold number waits) →
    has_target waits ≡ false → slice_get (after frames (Withhold number waits)) number ≡ Some Free

-- A frame is withheld for the targets that no call has settled since it was withheld, as long as there is one.
abbrev pub WithheldUntilSettled : Type 0
WithheldUntilSettled =
    (count : ℕ) (before calls : List Call) (number : ℕ) (waits : List (Option Target)) →
    ArePermitted (opened count) (before ++ Withhold number waits ∷ calls) → has_target (unsettled calls 0 waits) ≡ true →
    slice_get (after_all (opened count) (before ++ Withhold number waits ∷ calls)) number ≡ Some (Withheld (unsettled calls 0 waits))

-- The very call that settles the last of them makes the frame free.
abbrev pub FreeWhenSettled : Type 0
FreeWhenSettled =
    (count : ℕ) (before calls : List Call) (last : Call) (number : ℕ) (waits : List (Option Target)) →
    ArePermitted (opened count) (before ++ Withhold number waits ∷ (calls ++ last ∷ [])) →
    has_target (unsettled calls 0 waits) ≡ true → has_target (unsettled (calls ++ last ∷ []) 0 waits) ≡ false →
    slice_get (after_all (opened count) (before ++ Withhold number waits ∷ (calls ++ last ∷ []))) number ≡ Some Free

-- An event at a unit leaves of any waits, none at all included, what it leaves of the target at that unit.
abbrev pub SettlesWaits : Type 0
SettlesWaits =
    (unit : ℕ) (left : Option Target → Option Target) (waits : List (Option Target)) → left None ≡ None →
    settled unit left (after_waits waits) ≡ after_waits (slice_set waits unit (left (slice_index_or waits unit None)))
