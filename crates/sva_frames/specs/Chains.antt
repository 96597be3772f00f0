use Rattle.std.specs.Prelude.{◌≡◌, ◌≢◌, ℕ, zero, suc, ◌<◌, ◌==◌, ⊤, List, [], ◌∷◌, Option, Some, None, length, slice_get, slice_set, if◌then◌else◌}
use Rattle.sva_frames.specs.declared.waits.Target.{Target}
use Rattle.sva_frames.specs.declared.waits.Target.TheVariants.{Cookie, ResetEnd}
use Rattle.sva_frames.specs.declared.waits.TheConstants.{PENDING}
use Rattle.sva_frames.specs.declared.heads.Pending.{Pending}
use Rattle.sva_frames.specs.declared.lane.Cell.{Cell}

-- the first frame of a cookie's chain
abbrev pub first_of : List Pending → ℕ → Option ℕ
first_of [] cookie = None
first_of (entry ∷ entries) cookie = if entry.cookie == cookie then Some entry.first else first_of entries cookie

-- no cookie stands twice in a table
abbrev pub AreApart : List Pending → Type 0
AreApart [] = ⊤
AreApart (entry ∷ entries) = (first_of entries entry.cookie ≡ None) × AreApart entries

-- the first frame of each chain of a unit: the table of pending cookies, and the place of the reset's end
pub record Firsts : Type 0 where
  pub pending : List Pending
  pub reset : Option ℕ

-- the first frame of a target's chain, if it has one
abbrev pub first_at : Firsts → Target → Option ℕ
first_at firsts (Cookie cookie) = first_of firsts.pending cookie
first_at firsts ResetEnd = firsts.reset

-- a target that is to get a first frame has a place, or the table has one left
abbrev pub HasPlace : Firsts → Target → Type 0
HasPlace firsts (Cookie cookie) = first_of firsts.pending cookie ≡ None → length firsts.pending < PENDING
HasPlace firsts ResetEnd = ⊤

-- the cell of a frame that waits for nothing
abbrev pub unlinked : Cell
unlinked = record { target = None; next = None }

-- what a cell's frame waits for
abbrev pub target_of : Cell → Option Target
target_of cell = cell.target

-- no cell has the target
abbrev pub NoneWaits : Target → List Cell → Type 0
NoneWaits target cells = (frame : ℕ) (cell : Cell) → slice_get cells frame ≡ Some cell → cell.target ≢ Some target

-- The links from a first frame lead through exactly the frames with this target, so many, each once: a frame that is met
-- has the target, the rest is a chain once that frame is taken off, and at the end no frame has the target.
abbrev pub Chain : Target → ℕ → List Cell → Option ℕ → Type 0
Chain target zero cells None = NoneWaits target cells
Chain target zero cells (Some frame) = ⊥
Chain target (suc count) cells None = ⊥
Chain target (suc count) cells (Some frame) =
    (cell : Cell) × (slice_get cells frame ≡ Some cell) × (cell.target ≡ Some target) × Chain target count (slice_set cells frame unlinked) cell.next

-- each target has its chain
pub record IsLane (cells : List Cell) (firsts : Firsts) : Type 0 where
  pub chains : (target : Target) → (count : ℕ) × Chain target count cells (first_at firsts target)

-- the lanes after a frame waits for a target, if any, at each
abbrev pub entered : ℕ → List (Option Target) → List (List (Option Target)) → List (List (Option Target))
entered frame [] lanes = lanes
entered frame (target ∷ targets) [] = []
entered frame (target ∷ targets) (lane ∷ lanes) = slice_set lane frame target ∷ entered frame targets lanes

-- the target is the wanted one, or any is wanted
abbrev pub IsWanted : Option Target → Target → Type 0
IsWanted None target = ⊤
IsWanted (Some wanted) target = target ≡ wanted
