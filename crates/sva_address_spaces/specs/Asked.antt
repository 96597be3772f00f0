-- What a success answers to a job: the pages that its requests ask for are mapped in the space of its binding.
use Rattle.std.specs.Prelude.{◌≡◌, ℕ, ◌+◌, Bool, nat_lt, Some, List, [], ◌∷◌, Result, map, filter, length, position, slice_set}
use Rattle.sva_frames.specs.Frames.{Holding, Mapped, is_free}
use Rattle.sva_space.specs.Pages.{with_page}
use Rattle.sva_step.specs.declared.refusals.Refusal.{Refusal}
use Rattle.sva_step.specs.declared.refusals.Refusal.TheVariants as refusal
use Rattle.sva_step.specs.Limits
use Rattle.sva_model.specs.Refusals.{Cause}
use Rattle.sva_model.specs.Wire.{PageWire, PlaceWire, AskWire, insert_by, is_lower_page}
use Rattle.sva_model.specs.Wire.PlaceWire.{FreeWire, MappedWire}
use Rattle.sva_labels.specs.Finding.{free_from}
use Rattle.sva_labels.specs.Replying.{is_write_asked, new_among, writes_read_only}
use Rattle.sva_labels.specs.Moves.{Move, is_between, without_pages, placed}
use Rattle.sva_labels.specs.Outcomes.{maps_to}
use Rattle.sva_prq.specs.declared.jobs.Ask.{Ask}
use Rattle.sva_prq.specs.Job.{ask_seen}
use Rattle.sva_address_spaces.specs.Seen.{AddressSpacesSeen}
use Rattle.sva_address_spaces.specs.Pieces.{verdict}
use Rattle.sva_address_spaces.specs.Unmapping.{pages_in, unmapped}

-- what the requests of a job ask for, in order of filing
abbrev pub asks_seen : List Ask → List AskWire
asks_seen asks = map ask_seen asks

-- the pages that a success maps in the space of this number
abbrev pub new_pages : AddressSpacesSeen → (space : ℕ) → List AskWire → List ℕ
new_pages memory space asks = new_among (pages_in memory space) asks

-- what refuses a success, in order
abbrev pub success_causes : List PageWire → List PlaceWire → List AskWire → List Cause
success_causes pages places asks =
    (writes_read_only pages asks, refusal.BadVerdict)
    ∷ (nat_lt (length (free_from 0 places)) (length (new_among pages asks)), refusal.NoFrame)
    ∷ (nat_lt Limits.most_mapped (length pages + length (new_among pages asks)), refusal.SpaceFull)
    ∷ []

-- the first of them that holds
abbrev pub may_map_all : AddressSpacesSeen → (space : ℕ) → List AskWire → Result (Unit {0}) Refusal
may_map_all memory space asks = verdict (success_causes (pages_in memory space) memory.places asks)

-- what a success moves
abbrev pub maps_of : AddressSpacesSeen → (space : ℕ) → List AskWire → List Move
maps_of memory space asks = maps_to space asks (new_pages memory space asks) (free_from 0 memory.places)

-- what is kept once these pages are taken out again, the last first: their frames are free
abbrev pub taken_back : AddressSpacesSeen → (space : ℕ) → List ℕ → AddressSpacesSeen
taken_back memory space [] = memory
taken_back memory space (page ∷ pages) = unmapped (taken_back memory space pages) space page 1 []

-- The pages of the one space, and the places of frames.

-- once these pages are mapped to these frames, in turn
abbrev pub pages_mapped : List AskWire → List ℕ → List ℕ → List PageWire → List PageWire
pages_mapped asks (page ∷ others) (frame ∷ frames) pages =
    pages_mapped asks others frames (insert_by is_lower_page (record { page = page; frame = frame; write = is_write_asked asks page }) pages)
pages_mapped asks _ _ pages = pages

-- the places of frames after that: each frame that a page was mapped to is mapped
abbrev pub places_mapped : List ℕ → List ℕ → List PlaceWire → List PlaceWire
places_mapped (page ∷ others) (frame ∷ frames) places = places_mapped others frames (slice_set places frame MappedWire)
places_mapped _ _ places = places

-- once these pages are taken out, the last first
abbrev pub pages_back : List ℕ → List PageWire → List PageWire
pages_back [] pages = pages
pages_back (page ∷ others) pages = without_pages page 1 (pages_back others pages)

-- the places of frames after that: each frame that one of these pages led to is free again
abbrev pub places_back : List ℕ → List PageWire → List PlaceWire → List PlaceWire
places_back [] pages places = places
places_back (page ∷ others) pages places = placed FreeWire (filter (is_between page 1) (pages_back others pages)) (places_back others pages places)

-- A page of a space was mapped to the lowest free frame.
pub record MapsNew (space : List (ℕ × (ℕ × Bool))) (frames : List Holding) (page : ℕ) (write : Bool) (space_after : List (ℕ × (ℕ × Bool)))
    (frames_after : List Holding) : Type 0 where
  pub frame : ℕ
  pub lowest : position is_free frames ≡ Some frame
  pub mapped : space_after ≡ with_page space page frame write
  pub taken : frames_after ≡ slice_set frames frame Mapped

-- All new pages of a job were mapped, and are found when they are taken back.
pub record MapsAll (pages : List PageWire) (places : List PlaceWire) (asks : List AskWire) (pages_after : List PageWire)
    (places_after : List PlaceWire) : Type 0 where
  pub mapped : pages_after ≡ pages_mapped asks (new_among pages asks) (free_from 0 places) pages
  pub taken : places_after ≡ places_mapped (new_among pages asks) (free_from 0 places) places
  pub pages_return : pages_back (new_among pages asks) pages_after ≡ pages
  pub places_return : places_back (new_among pages asks) pages_after places_after ≡ places
