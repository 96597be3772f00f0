use Rattle.std.specs.Prelude.{ℕ, Bool, true, false, ◌==◌, List, Option, Some, None, is_some, slice_set, slice_index_or, if◌then◌else◌}
use Rattle.std.specs.List.{list_any}
use Rattle.sva_frames.specs.declared.waits.Target.{Target}
use Rattle.sva_frames.specs.declared.waits.Target.TheVariants.{Cookie, ResetEnd}
use Rattle.sva_frames.specs.declared.pool.Place.{Place}
use Rattle.sva_frames.specs.declared.pool.Place.TheVariants.{Free as FreePlace, Mapped as MappedPlace, Withheld as WithheldPlace}

-- Where a frame is. A withheld frame has a table by units: at each unit's number the target that the frame still
-- waits for there, if any.
pub data Holding : Type 0 where
  Free : Holding
  Mapped : Holding
  Withheld : List (Option Target) → Holding

-- where a frame is, without what a withheld one waits for
abbrev pub place_of : Holding → Place
place_of Free = FreePlace
place_of Mapped = MappedPlace
place_of (Withheld waits) = WithheldPlace

-- may the frame be handed out?
abbrev pub is_free : Holding → Bool
is_free Free = true
is_free Mapped = false
is_free (Withheld waits) = false

-- was the frame handed out, and neither given back nor withheld since?
abbrev pub is_mapped : Holding → Bool
is_mapped Free = false
is_mapped Mapped = true
is_mapped (Withheld waits) = false

-- is the frame out of every space, and does it still wait at some unit?
abbrev pub is_withheld : Holding → Bool
is_withheld Free = false
is_withheld Mapped = false
is_withheld (Withheld waits) = true

-- some unit has a target
abbrev pub has_target : List (Option Target) → Bool
has_target waits = list_any is_some waits

-- a frame that is in no space and has these waits left: with no target it is free
abbrev pub after_waits : List (Option Target) → Holding
after_waits waits = if has_target waits then Withheld waits else Free

-- what is left of a target at the unit whose wait with this cookie is done
abbrev pub past_cookie : ℕ → Option Target → Option Target
past_cookie cookie None = None
past_cookie cookie (Some (Cookie awaited)) = if awaited == cookie then None else Some (Cookie awaited)
past_cookie cookie (Some ResetEnd) = Some ResetEnd

-- what is left of a target at the unit whose reset has ended: neither a cookie nor the reset's end
abbrev pub past_reset : Option Target → Option Target
past_reset target = None

-- the holding after an event at one unit, where `left` is what the event leaves of a target there
abbrev pub settled : ℕ → (Option Target → Option Target) → Holding → Holding
settled unit left Free = Free
settled unit left Mapped = Mapped
settled unit left (Withheld waits) = after_waits (slice_set waits unit (left (slice_index_or waits unit None)))
