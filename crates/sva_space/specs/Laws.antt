use Rattle.std.specs.Prelude.{◌≡◌, ℕ, ◌+◌, ◌<◌, ◌≤◌, Bool, List, [], ◌∷◌, Some, None, MatchOption, find, count_by}
use Rattle.sva_space.specs.Pages.{IsRising, mapping_at, without_page, is_between, mappings_between}
use Rattle.sva_space.specs.Calls.{Call, after_all, ArePermitted, left_at_all, brings, count_in, count_out}

-- After any list of calls the pages rise, so no page stands twice.
abbrev pub Rising : Type 0
Rising = (calls : List Call) → IsRising (after_all [] calls)

-- A space is a finite map: at each page there is what the last call on that page left.
abbrev pub FiniteMap : Type 0
FiniteMap =
    (calls : List Call) (page : ℕ) → mapping_at (after_all [] calls) page ≡ left_at_all page None calls

-- A space owns its frames: each frame that was mapped into it is in it, or was answered by an unmapping.
abbrev pub Owned : Type 0
Owned =
    (calls : List Call) (frame : ℕ) → ArePermitted [] calls →
    count_by (brings frame) calls ≡ count_in frame (after_all [] calls) + count_out frame [] calls

-- The first mapping of a space is that of its lowest page, and the others are the space without that page.
abbrev pub LowestFirst : Type 0
LowestFirst =
    (page frame : ℕ) (write : Bool) (rest : List (ℕ × (ℕ × Bool))) → IsRising ((page, (frame, write)) ∷ rest) →
    (mapping_at ((page, (frame, write)) ∷ rest) page ≡ Some (frame, write))
    × (without_page ((page, (frame, write)) ∷ rest) page ≡ rest)
    × ((other : ℕ) (mapping : ℕ × Bool) → mapping_at rest other ≡ Some mapping → page < other)

-- What is found of a range after any list of calls: nothing where none of its pages is mapped, else the mapping of its
-- lowest mapped page; and without that page the others of the range are left.
pub record IsLowestBetween (first end : ℕ) (mappings : List (ℕ × (ℕ × Bool))) (lowest : ℕ × (ℕ × Bool)) : Type 0 where
  pub from_first : first ≤ lowest.0
  pub below_end : lowest.0 < end
  pub mapped : mapping_at mappings lowest.0 ≡ Some lowest.1
  pub least : (page : ℕ) (mapping : ℕ × Bool) → first ≤ page → page < end → mapping_at mappings page ≡ Some mapping → lowest.0 ≤ page
  pub others : mappings_between first end mappings ≡ lowest ∷ mappings_between first end (without_page mappings lowest.0)

-- So it is found after every list of calls, whatever the bounds of the range are.
abbrev pub LowestBetween : Type 0
LowestBetween =
    (calls : List Call) (first end : ℕ) →
    MatchOption (find (is_between first end) (after_all [] calls))
    ((page : ℕ) → first ≤ page → page < end → mapping_at (after_all [] calls) page ≡ None)
    (λ lowest. IsLowestBetween first end (after_all [] calls) lowest)
