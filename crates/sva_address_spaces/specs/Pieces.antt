-- What each piece of a step does to the pages of one space and to the places of frames.
use Rattle.std.specs.Prelude.{◌≡◌, ℕ, ◌+◌, Bool, List, Result, Ok, Err, IsOk}
use Rattle.std.specs.Prelude.{slice_set}
use Rattle.sva_step.specs.declared.answers.Answer.TheVariants as answer
use Rattle.sva_step.specs.declared.refusals.Refusal.{Refusal}
use Rattle.sva_step.specs.declared.refusals.Refusal.TheVariants as refusal
use Rattle.sva_model.specs.Words.{any_below, all_below, count_below}
use Rattle.sva_model.specs.Refusals.{Cause, unless_refused}
use Rattle.sva_model.specs.Steps.{Reply}
use Rattle.sva_model.specs.Wire.{PageWire, PlaceWire, insert_by, is_lower_page}
use Rattle.sva_model.specs.Wire.PlaceWire.{MappedWire}
use Rattle.sva_labels.specs.Finding.{is_mapped, lowest_free}
use Rattle.sva_labels.specs.Causes.{map_causes}

-- what refuses, where there is nothing to answer
abbrev pub verdict : List Cause → Result (Unit {0}) Refusal
verdict causes = unless_refused causes tt

-- the answer to a page that is mapped among the pages of its space
abbrev pub map_reply : List PlaceWire → (page : ℕ) → List PageWire → Reply
map_reply places page pages = unless_refused (map_causes places pages page) (answer.Frame (lowest_free places))

-- the pages and the places after a page was mapped, by the answer
abbrev pub PageMapped : List PageWire → List PlaceWire → (page : ℕ) (write : Bool) → Reply → List PageWire → List PlaceWire → Type 0
PageMapped pages places page write (Ok (answer.Frame frame)) pages_after places_after =
    (pages_after ≡ insert_by is_lower_page (record { page = page; frame = frame; write = write }) pages) × (places_after ≡ slice_set places frame MappedWire)
PageMapped pages places page write (Ok _) pages_after places_after = ⊥
PageMapped pages places page write _ pages_after places_after = (pages_after ≡ pages) × (places_after ≡ places)

-- A page is mapped, or refused by the first cause that holds. Want of memory changes nothing, and comes only where the page would have
-- been mapped.
abbrev pub MapsPage : List PageWire → List PlaceWire → (page : ℕ) (write : Bool) → Reply → List PageWire → List PlaceWire → Type 0
MapsPage pages places page write (Err refusal.OutOfMemory) pages_after places_after =
    IsOk (map_reply places page pages) × (pages_after ≡ pages) × (places_after ≡ places)
MapsPage pages places page write result pages_after places_after =
    (result ≡ map_reply places page pages) × PageMapped pages places page write result pages_after places_after

-- each of `count` pages in a row is mapped
unfoldable pub are_mapped : List PageWire → (page count : ℕ) → Bool
are_mapped pages page count = all_below count (λ offset. is_mapped pages (page + offset))

-- some of them is
unfoldable pub is_some_mapped : List PageWire → (page count : ℕ) → Bool
is_some_mapped pages page count = any_below count (λ offset. is_mapped pages (page + offset))

-- how many of `count` pages in a row are mapped
unfoldable pub count_mapped : List PageWire → (page count : ℕ) → ℕ
count_mapped pages page count = count_below count (λ offset. is_mapped pages (page + offset))
