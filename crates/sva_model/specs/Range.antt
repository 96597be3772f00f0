-- Ranges of pages. An Invalidate Request names a range of 2^k aligned pages by one address field and the bit S (PCI Express
-- Base 5.0, section 10.3.1, with the coding of a Translation Completion's size, section 10.2.3.2): with S clear it is one page;
-- with S set, the address bits from bit 0 of the page number upwards that are set before the first clear one, and that clear
-- one, are no part of the address, and the range has as many times two pages as there are such bits. Here k is 9 at most.
use Rattle.std.specs.Prelude.{ℕ, zero, suc, ◌+◌, ◌-◌, ◌/◌, ◌%◌, ◌^◌, ◌≡◌, ◌<◌, ◌≤◌, Bool, true, false, ◌&&◌, ◌==◌, nat_lt, nat_le, if◌then◌else◌, Option}
use Rattle.std.specs.Prelude.{Some, None}
use Rattle.sva_step.specs.Limits

-- 2^order pages from `base` on
pub record Range : Type 0 where
  pub base : ℕ
  pub order : ℕ

-- how many pages it has
abbrev pub pages_in : Range → ℕ
pages_in range = 2 ^ range.order

-- is the page one of the range?
abbrev pub is_in : Range → (page : ℕ) → Bool
is_in range page = nat_le range.base page && nat_lt page (range.base + pages_in range)

-- a range that can be coded: of 1 to 512 pages, aligned to its size, of page numbers below 2^36
pub record IsRange (range : Range) : Type 0 where
  pub small : range.order ≤ Limits.most_order
  pub low : range.base < Limits.page_numbers
  pub aligned : range.base % pages_in range ≡ 0

-- the address field, as a page number, and the bit S
pub record RangeCode : Type 0 where
  pub page : ℕ
  pub s : Bool

-- the code of 2^order pages from `base` on
abbrev pub encode_by : (base order : ℕ) → RangeCode
encode_by base zero = record { page = base; s = false }
encode_by base (suc below) = record { page = base + (2 ^ below - 1); s = true }

-- the code of a range
abbrev pub encode : Range → RangeCode
encode range = encode_by range.base range.order

-- how many bits of a number are set, of the n lowest ones from bit 0 upwards, before the first that is clear
abbrev pub ones : (n number : ℕ) → ℕ
ones zero number = zero
ones (suc n) number = if number % 2 == 1 then suc (ones n (number / 2)) else zero

-- the range of 2^(bits + 1) pages about a page, of which so many lowest bits are set
abbrev pub range_about : (page bits : ℕ) → Option Range
range_about page bits = if nat_lt bits Limits.most_order then Some (record { base = page - page % 2 ^ suc bits; order = suc bits }) else None

-- the range of a code; none where it has more than 512 pages, or is no page number
abbrev pub decode_by : Bool → RangeCode → Option Range
decode_by false code = None
decode_by true code = if code.s then range_about code.page (ones Limits.most_order code.page) else Some (record { base = code.page; order = 0 })

-- the range that a code names
abbrev pub decode : RangeCode → Option Range
decode code = decode_by (nat_lt code.page Limits.page_numbers) code
