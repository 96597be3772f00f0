-- The pages of a space, what stands at a page, and the lowest free frame, in the lists that a host keeps.
use Rattle.std.specs.Prelude.{ℕ, zero, suc, Bool, true, false, ◌==◌, if◌then◌else◌, Option, Some, None, List, [], ◌∷◌}
use Rattle.sva_step.specs.Limits
use Rattle.sva_model.specs.Wire.{SpaceWire, PageWire, PlaceWire}
use Rattle.sva_model.specs.Wire.PlaceWire.{FreeWire}

-- the pages of the space of a number
abbrev pub pages_of : List SpaceWire → (number : ℕ) → Option (List PageWire)
pages_of [] number = None
pages_of (space ∷ spaces) number = if space.number == number then Some space.pages else pages_of spaces number

-- what stands at a page of a space, if anything does
abbrev pub page_at : List PageWire → (page : ℕ) → Option PageWire
page_at [] page = None
page_at (entry ∷ pages) page = if entry.page == page then Some entry else page_at pages page

-- is the place free?
abbrev pub is_free : PlaceWire → Bool
is_free FreeWire = true
is_free _ = false

-- the lowest frame that is free; the number of frames where none is
abbrev pub lowest_free : List PlaceWire → ℕ
lowest_free [] = 0
lowest_free (place ∷ places) = if is_free place then 0 else suc (lowest_free places)

-- the Completion Count as it is read: a field of three bits, in which 0 stands for 8 (section 10.3.2)
abbrev pub count_read : (field : ℕ) → ℕ
count_read zero = Limits.most_completions
count_read (suc below) = suc below
