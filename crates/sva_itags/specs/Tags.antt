-- The tags of the Invalidate Requests of one unit (PCI Express Base 5.0, sections 10.3.1 to 10.3.3): a list of 32
-- places, the place of tag T at index T, None for a free tag.
use Rattle.std.specs.Prelude.{◌≡◌, ℕ, suc, ◌+◌, ◌<◌, ◌≤◌, ◌==◌, Bool, ◌&&◌, Option, Some, None, List, [], ◌∷◌, is_some, is_none, map, replicate, position}
use Rattle.std.specs.Prelude.{length, All, slice_get, IsTrue, slice_set, if◌then◌else◌}
use Rattle.sva_step.specs.Limits
use Rattle.sva_itags.specs.Vector.{is_named, vector_of}
use Rattle.sva_itags.specs.declared.itags.Busy.{Busy}
use Rattle.sva_itags.specs.declared.itags.Busy.TheVariants.{Fresh, Counting}

-- a busy tag waits for a completion at least: none came yet, or fewer than its count, which is 1 to 8
abbrev pub IsWaiting : Busy → Type 0
IsWaiting Fresh = Unit {0}
IsWaiting (Counting count arrived) = (0 < arrived) × (arrived < count) × (count ≤ Limits.most_completions)

-- a tag is free, or it waits for a completion
abbrev pub IsPlace : Option Busy → Type 0
IsPlace None = Unit {0}
IsPlace (Some busy) = IsWaiting busy

-- there are 32 tags, each of them free or waiting
abbrev pub AreTags : List (Option Busy) → Type 0
AreTags places = (length places ≡ Limits.itags) × All IsPlace places

-- every tag is free
abbrev pub all_free : List (Option Busy)
all_free = replicate Limits.itags None

-- the vector of the busy tags
abbrev pub busy_vector : List (Option Busy) → ℕ
busy_vector places = vector_of (map is_some places)

-- the lowest free tag, if a tag is free
abbrev pub lowest_free : List (Option Busy) → Option ℕ
lowest_free places = position is_none places

-- the places once a tag is busy, with no completion yet
abbrev pub with_fresh : Option ℕ → List (Option Busy) → List (Option Busy)
with_fresh None places = places
with_fresh (Some tag) places = slice_set places tag (Some Fresh)

-- the places once the lowest free tag is taken; the same where none is free
abbrev pub taken : List (Option Busy) → List (Option Busy)
taken places = with_fresh (lowest_free places) places

-- a busy tag of which this many completions have arrived: free once they are as many as its count
abbrev pub counted : ℕ → ℕ → Option Busy
counted count arrived =
    if arrived == count then None else Some (Counting count arrived)

-- a busy tag after one completion more; the first one fixes the count, and a later one doesn't change it
abbrev pub one_more : ℕ → Busy → Option Busy
one_more count Fresh = counted count 1
one_more count (Counting fixed arrived) = counted fixed (arrived + 1)

-- a place after a completion that names its tag, or doesn't; a free tag stays free
abbrev pub after_completion : Bool → ℕ → Option Busy → Option Busy
after_completion named count None = None
after_completion named count (Some busy) = if named then one_more count busy else Some busy

-- the places after a completion with this vector and count; the first place is that of the given tag
abbrev pub completed_from : ℕ → ℕ → ℕ → List (Option Busy) → List (Option Busy)
completed_from tag vector count [] = []
completed_from tag vector count (place ∷ rest) =
    after_completion (is_named vector tag) count place ∷ completed_from (suc tag) vector count rest

-- the places after a completion with this vector and count
abbrev pub completed : ℕ → ℕ → List (Option Busy) → List (Option Busy)
completed vector count places = completed_from 0 vector count places

-- whether a tag that was busy is free
abbrev pub is_freed : Option Busy → Option Busy → Bool
is_freed old new = is_some old && is_none new

-- for each place whether its tag was busy and is free
abbrev pub freed_places : List (Option Busy) → List (Option Busy) → List Bool
freed_places (old ∷ olds) (new ∷ news) = is_freed old new ∷ freed_places olds news
freed_places _ _ = []

-- the vector of the tags that a completion with this vector and count frees
abbrev pub freed_vector : ℕ → ℕ → List (Option Busy) → ℕ
freed_vector vector count places = vector_of (freed_places places (completed vector count places))

-- the tag is busy
abbrev pub IsBusy : List (Option Busy) → ℕ → Type 0
IsBusy places tag = (busy : Busy) × (slice_get places tag ≡ Some (Some busy))

-- a completion with this count is the last one of a busy tag: with it, the arrivals equal the count
abbrev pub IsLast : ℕ → Busy → Type 0
IsLast count Fresh = 1 ≡ count
IsLast count (Counting fixed arrived) = arrived + 1 ≡ fixed

-- a completion with this vector and count completes the tag: it names it, the tag is busy, and it is its last one
abbrev pub Completes : ℕ → ℕ → List (Option Busy) → ℕ → Type 0
Completes vector count places tag =
    (busy : Busy) × (slice_get places tag ≡ Some (Some busy)) × IsTrue (is_named vector tag) × IsLast count busy
