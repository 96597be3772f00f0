-- How what the parts keep is seen by the definitions.
use Rattle.std.specs.Prelude.{ℕ, Bool, Option, List, map, option_map}
use Rattle.sva_frames.specs.declared.waits.Target.{Target}
use Rattle.sva_frames.specs.declared.waits.Target.TheVariants.{Cookie as CookieTarget, ResetEnd as ResetTarget}
use Rattle.sva_frames.specs.Frames.{Holding, Free, Mapped, Withheld}
use Rattle.sva_model.specs.Wire.{Wire, SpaceWire, PageWire, PlaceWire, TargetWire}
use Rattle.sva_model.specs.Wire.TargetWire.{Cookie, ResetEnd}
use Rattle.sva_model.specs.Wire.PlaceWire.{FreeWire, MappedWire, WithheldWire}

-- a page of a space, with its frame and its write flag
abbrev pub page_seen : ℕ × (ℕ × Bool) → PageWire
page_seen mapping = record { page = mapping.0; frame = mapping.1.0; write = mapping.1.1 }

-- the mapped pages of a space, in rising order as the space has them
abbrev pub pages_seen : List (ℕ × (ℕ × Bool)) → List PageWire
pages_seen mappings = map page_seen mappings

-- what a withheld frame waits for at a unit: a wait by its cookie, or the end of the reset that the unit is in
abbrev pub target_seen : Target → TargetWire
target_seen (CookieTarget cookie) = Cookie cookie
target_seen ResetTarget = ResetEnd

-- the same at each unit, by its number; none where the frame waits for nothing there
abbrev pub targets_seen : List (Option Target) → List (Option TargetWire)
targets_seen targets = map (option_map target_seen) targets

-- where a frame is
abbrev pub place_seen : Holding → PlaceWire
place_seen Free = FreeWire
place_seen Mapped = MappedWire
place_seen (Withheld targets) = WithheldWire (targets_seen targets)

-- where each frame is, by its number
abbrev pub places_seen : List Holding → List PlaceWire
places_seen frames = map place_seen frames

-- What a host keeps of its spaces and frames.
pub record AddressSpacesSeen : Type 0 where
  pub spaces : List SpaceWire
  pub places : List PlaceWire
  pub next_space : ℕ

-- the spaces and frames of a host, without what it keeps of bindings, endpoints and messages
abbrev pub address_spaces_of : Wire → AddressSpacesSeen
address_spaces_of world = record { spaces = world.spaces; places = world.places; next_space = world.next_space }

-- the host that keeps this, and all else as before
abbrev pub with_address_spaces : Wire → AddressSpacesSeen → Wire
with_address_spaces world memory = record world { spaces = memory.spaces; places = memory.places; next_space = memory.next_space }
