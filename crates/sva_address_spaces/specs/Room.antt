-- Room for what frames wait for, by the places of frames.
use Rattle.std.specs.Prelude.{◌≡◌, ℕ, ◌<◌, ◌==◌, false, List, Option, Some, map, slice_get}
use Rattle.std.specs.Set.{distinct_count, is_member}
use Rattle.sva_step.specs.Limits
use Rattle.sva_model.specs.Wire.{PlaceWire, TargetWire}
use Rattle.sva_model.specs.Wire.TargetWire.{Cookie, ResetEnd}
use Rattle.sva_labels.specs.Sound.{target_there, cookies_in}

-- Where these are the targets at a unit, one more has room: it is a reset's end, or a cookie that is pending there, or a new
-- cookie that finds fewer than 64 different ones pending.
abbrev pub HasRoom : List (Option TargetWire) → TargetWire → Type 0
HasRoom targets (Cookie cookie) = is_member (◌==◌) (cookies_in targets) cookie ≡ false → distinct_count (◌==◌) (cookies_in targets) < Limits.queue_places
HasRoom targets ResetEnd = Unit {0}

-- each of these targets has room at its unit
abbrev pub HaveRoom : List PlaceWire → List (Option TargetWire) → Type 0
HaveRoom places targets =
    (endpoint : ℕ) (target : TargetWire) → slice_get targets endpoint ≡ Some (Some target) → HasRoom (map (target_there endpoint) places) target
