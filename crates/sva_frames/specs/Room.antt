use Rattle.std.specs.Prelude.{◌≡◌, ℕ, ◌<◌, ◌==◌, ⊤, false, List, [], ◌∷◌, Option, Some, None, map, slice_get, slice_index_or}
use Rattle.std.specs.Set.{distinct_count, is_member}
use Rattle.sva_frames.specs.declared.waits.Target.{Target}
use Rattle.sva_frames.specs.declared.waits.Target.TheVariants.{Cookie, ResetEnd}
use Rattle.sva_frames.specs.declared.waits.TheConstants.{PENDING}
use Rattle.sva_frames.specs.Frames.{Holding, Free, Mapped, Withheld}

-- what a frame waits for at a unit, if anything
abbrev pub target_at : ℕ → Holding → Option Target
target_at unit Free = None
target_at unit Mapped = None
target_at unit (Withheld waits) = slice_index_or waits unit None

-- the cookies among targets, as often as they stand there
abbrev pub cookies : List (Option Target) → List ℕ
cookies [] = []
cookies (None ∷ targets) = cookies targets
cookies (Some ResetEnd ∷ targets) = cookies targets
cookies (Some (Cookie cookie) ∷ targets) = cookie ∷ cookies targets

-- Where these are the targets at a unit, one more has room: it is a reset's end, or a cookie that is pending there, or
-- a new cookie that finds fewer different ones pending than a unit may have.
abbrev pub HasRoom : List (Option Target) → Target → Type 0
HasRoom targets (Cookie cookie) = is_member (◌==◌) (cookies targets) cookie ≡ false → distinct_count (◌==◌) (cookies targets) < PENDING
HasRoom targets ResetEnd = ⊤

-- each target of these waits has room at its unit
abbrev pub HaveRoom : List Holding → List (Option Target) → Type 0
HaveRoom frames waits = (unit : ℕ) (target : Target) → slice_get waits unit ≡ Some (Some target) → HasRoom (map (target_at unit) frames) target
