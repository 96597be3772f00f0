use Rattle.std.specs.Prelude.{◌≡◌, ℕ, ◌+◌, ◌==◌, Bool, false, count_by, ⊤, List, [], ◌∷◌, Option, Some, None, if◌then◌else◌}
use Rattle.std.specs.Map.{values_of}
use Rattle.sva_space.specs.Pages.{mapping_at, with_page, without_page}

-- a call that may change a space: a page mapped to a frame with its write flag, a page unmapped. Taking the first
-- page out, of all or of a range, is an unmapping of the lowest page there.
pub data Call : Type 0 where
  Map : ℕ → ℕ → Bool → Call
  Unmap : ℕ → Call

-- the space after a call
abbrev pub after : List (ℕ × (ℕ × Bool)) → Call → List (ℕ × (ℕ × Bool))
after mappings (Map page frame write) = with_page mappings page frame write
after mappings (Unmap page) = without_page mappings page

-- the condition of a call: a page to be mapped isn't mapped
abbrev pub IsPermitted : List (ℕ × (ℕ × Bool)) → Call → Type 0
IsPermitted mappings (Map page frame write) = mapping_at mappings page ≡ None
IsPermitted mappings (Unmap page) = ⊤

-- the space after a list of calls
abbrev pub after_all : List (ℕ × (ℕ × Bool)) → List Call → List (ℕ × (ℕ × Bool))
after_all mappings [] = mappings
after_all mappings (call ∷ calls) = after_all (after mappings call) calls

-- each call of the list is permitted when its turn comes
abbrev pub ArePermitted : List (ℕ × (ℕ × Bool)) → List Call → Type 0
ArePermitted mappings [] = ⊤
ArePermitted mappings (call ∷ calls) = IsPermitted mappings call × ArePermitted (after mappings call) calls

-- what a call leaves at one page
abbrev pub left_at : ℕ → Option (ℕ × Bool) → Call → Option (ℕ × Bool)
left_at page before (Map mapped frame write) = if mapped == page then Some (frame, write) else before
left_at page before (Unmap unmapped) = if unmapped == page then None else before

-- what a list of calls leaves at one page
abbrev pub left_at_all : ℕ → Option (ℕ × Bool) → List Call → Option (ℕ × Bool)
left_at_all page before [] = before
left_at_all page before (call ∷ calls) = left_at_all page (left_at page before call) calls

-- the call maps this frame
abbrev pub brings : ℕ → Call → Bool
brings frame (Map page mapped write) = mapped == frame
brings frame (Unmap page) = false

-- the mapping is to this frame
abbrev pub is_to : ℕ → Option (ℕ × Bool) → Bool
is_to frame None = false
is_to frame (Some mapping) = mapping.0 == frame

-- the call takes this frame out
abbrev pub takes : ℕ → List (ℕ × (ℕ × Bool)) → Call → Bool
takes frame mappings (Map page mapped write) = false
takes frame mappings (Unmap page) = is_to frame (mapping_at mappings page)

-- how many pages of the space are mapped to a frame
abbrev pub count_in : ℕ → List (ℕ × (ℕ × Bool)) → ℕ
count_in frame mappings = count_by (λ mapping. mapping.0 == frame) (values_of mappings)

-- how many of the calls take a frame out
abbrev pub count_out : ℕ → List (ℕ × (ℕ × Bool)) → List Call → ℕ
count_out frame mappings [] = 0
count_out frame mappings (call ∷ calls) =
    (if takes frame mappings call then 1 else 0) + count_out frame (after mappings call) calls
