-- What holds of ranges and of their codes.
use Rattle.std.specs.Prelude.{◌≡◌, ℕ, ◌-◌, ◌%◌, ◌^◌, ◌≤◌, true, ◌⊎◌, ◌↔◌, IsTrue, Some, None, IfSome}
use Rattle.sva_step.specs.Limits
use Rattle.sva_model.specs.Range.{Range, IsRange, RangeCode, pages_in, is_in, encode, decode}

-- no code of a range: the page is no page number, or the range would have more than 2^9 pages, since S is set and so are
-- the nine lowest bits of the page
abbrev pub IsNoCode : RangeCode → Type 0
IsNoCode code = (Limits.page_numbers ≤ code.page) ⊎ ((code.s ≡ true) × (code.page % 2 ^ Limits.most_order ≡ 2 ^ Limits.most_order - 1))

-- A range is read from its own code, so two ranges have two codes. A code that is read gives a range within its limits,
-- of which it is the code. A page is in a range exactly where its number, its low bits cleared, is the range's base; so two
-- ranges of one order have all pages in common, or none.
pub record AreCodes : Type 0 where
  pub read_back : (range : Range) → IsRange range → decode (encode range) ≡ Some range
  pub apart : (range other : Range) → IsRange range → IsRange other → encode range ≡ encode other → range ≡ other
  pub none_exactly : (code : RangeCode) → (decode code ≡ None) ↔ IsNoCode code
  pub in_limits : (code : RangeCode) → IfSome (decode code) IsRange
  pub written_back : (code : RangeCode) → IfSome (decode code) (λ range. encode range ≡ code)
  pub covered : (range : Range) → IsRange range → (page : ℕ) → IsTrue (is_in range page) ↔ (page - page % pages_in range ≡ range.base)
