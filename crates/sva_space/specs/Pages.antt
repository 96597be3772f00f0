use Rattle.std.specs.Prelude.{ℕ, ◌<◌, ◌≤◌, Bool, not, ◌&&◌, nat_lt, List, filter, Option, Some, None, IsSome}
use Rattle.std.specs.BTreeMap.{is_at, insert_entry}
use Rattle.std.specs.Map.{lookup, remove_entry, keys_of}
use Rattle.std.specs.Ordering.{nat_cmp}
use Rattle.std.specs.List.Sorted.{IsStrictlySortedBy}
use Rattle.sva_step.specs.declared.refusals.Refusal.{Refusal}
use Rattle.sva_step.specs.declared.refusals.Refusal.TheVariants as refusal

-- each page is above the one before it
abbrev pub IsRising : List (ℕ × (ℕ × Bool)) → Type 0
IsRising mappings = IsStrictlySortedBy nat_cmp (keys_of mappings)

-- the frame at a page and its write flag
abbrev pub mapping_at : List (ℕ × (ℕ × Bool)) → ℕ → Option (ℕ × Bool)
mapping_at mappings page = lookup (is_at (nat_cmp page)) mappings

-- why a page isn't mapped anew where this is at it: it is mapped, or there is no memory for it
abbrev pub unmapped_by : Option (ℕ × Bool) → Refusal
unmapped_by (Some mapping) = refusal.Mapped
unmapped_by None = refusal.OutOfMemory

-- with one page more, at its place in the order
abbrev pub with_page : List (ℕ × (ℕ × Bool)) → ℕ → ℕ → Bool → List (ℕ × (ℕ × Bool))
with_page mappings page frame write = insert_entry nat_cmp mappings page (frame, write)

-- without a page
abbrev pub without_page : List (ℕ × (ℕ × Bool)) → ℕ → List (ℕ × (ℕ × Bool))
without_page mappings page = remove_entry (is_at (nat_cmp page)) mappings

-- the page is one from `first` on and below `end`
abbrev pub is_between : ℕ → ℕ → (ℕ × (ℕ × Bool)) → Bool
is_between first end mapping = not (nat_lt mapping.0 first) && nat_lt mapping.0 end

-- the mappings of these pages, in rising order
abbrev pub mappings_between : ℕ → ℕ → List (ℕ × (ℕ × Bool)) → List (ℕ × (ℕ × Bool))
mappings_between first end mappings = filter (is_between first end) mappings

-- each of these pages is mapped
abbrev pub AllMapped : ℕ → ℕ → List (ℕ × (ℕ × Bool)) → Type 0
AllMapped first end mappings = (page : ℕ) → first ≤ page → page < end → IsSome (mapping_at mappings page)
