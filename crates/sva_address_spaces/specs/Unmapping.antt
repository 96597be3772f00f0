-- What an unmapping asks of the spaces, and what it leaves of spaces and frames. What the units are asked, and what they get,
-- is another part's.
use Rattle.std.specs.Prelude.{ℕ, ◌+◌, not, Option, List, ◌∷◌, Result, filter}
use Rattle.sva_step.specs.declared.refusals.Refusal.{Refusal}
use Rattle.sva_step.specs.declared.refusals.Refusal.TheVariants as refusal
use Rattle.sva_model.specs.Words.{count_below}
use Rattle.sva_model.specs.Refusals.{Cause}
use Rattle.sva_model.specs.Wire.{PageWire, TargetWire}
use Rattle.sva_labels.specs.Finding.{pages_of, or_no_pages, is_mapped}
use Rattle.sva_labels.specs.Finding as finding
use Rattle.sva_labels.specs.Moves.{with_pages, without_pages, is_between, placed, place_for}
use Rattle.sva_labels.specs.Moves as labels
use Rattle.sva_address_spaces.specs.Seen.{AddressSpacesSeen}
use Rattle.sva_address_spaces.specs.Pieces.{verdict}
use Rattle.sva_labels.specs.Causes.{page_causes_of_unmap, page_causes_of_unmap_range}
use Rattle.sva_address_spaces.specs.Steps.{has_space}

-- the pages of the space of a number; none where there is no such space
abbrev pub pages_in : AddressSpacesSeen → (number : ℕ) → List PageWire
pages_in memory number = or_no_pages (pages_of memory.spaces number)

-- the causes of the steps by labels that the spaces decide, in their order
abbrev pub no_such_space : AddressSpacesSeen → (number : ℕ) → Cause
no_such_space memory number = (not (has_space memory number), refusal.NoSuchSpace)

-- against an unmapping of `count` pages in a row; whether queues have room, and cookies are left, is asked elsewhere
abbrev pub unmap_causes_of : AddressSpacesSeen → (space page count : ℕ) → List Cause
unmap_causes_of memory space page count = no_such_space memory space ∷ page_causes_of_unmap (pages_in memory space) page count

-- against an unmapping of a range of 2^order aligned pages (PCI Express Base 5.0, section 10.3.1)
abbrev pub range_causes_of : AddressSpacesSeen → (space page order : ℕ) → List Cause
range_causes_of memory space page order = no_such_space memory space ∷ page_causes_of_unmap_range (pages_in memory space) page order

-- the first of them that holds
abbrev pub may_unmap : AddressSpacesSeen → (space page count : ℕ) → Result (Unit {0}) Refusal
may_unmap memory space page count = verdict (unmap_causes_of memory space page count)

-- whether a range may be unmapped: else the first cause against it
abbrev pub may_unmap_range : AddressSpacesSeen → (space page order : ℕ) → Result (Unit {0}) Refusal
may_unmap_range memory space page order = verdict (range_causes_of memory space page order)

-- the frames of pages in a row
abbrev pub frames_of : AddressSpacesSeen → (space page count : ℕ) → List ℕ
frames_of memory space page count = finding.frames_of (pages_in memory space) page count

-- how many of pages in a row are mapped
abbrev pub mapped_of : AddressSpacesSeen → (space page count : ℕ) → ℕ
mapped_of memory space page count = count_below count (λ offset. is_mapped (pages_in memory space) (page + offset))

-- without those of `count` pages in a row that are mapped, where their frames wait for these targets
abbrev pub unmapped : AddressSpacesSeen → (space page count : ℕ) → List (Option TargetWire) → AddressSpacesSeen
unmapped memory space page count targets =
    record memory {
      spaces = with_pages memory.spaces space (without_pages page count);
      places = placed (place_for targets) (filter (is_between page count) (pages_in memory space)) memory.places;
    }

-- After a unit has passed a wait, or a reset has ended: what it has settled is waited for no more.
abbrev pub settled : AddressSpacesSeen → (endpoint : ℕ) → (Option TargetWire → Option TargetWire) → AddressSpacesSeen
settled memory endpoint settle = record memory { places = labels.settled endpoint settle memory.places }
