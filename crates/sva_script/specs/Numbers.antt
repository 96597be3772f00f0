-- Pages in hexadecimal digits, and vectors as lists of ITags.
use Rattle.std.specs.Prelude.{ℕ, ◌-◌, ◌^◌, ◌==◌, ◌&&◌, Bool, if◌then◌else◌, nat_le, nat_lt, List, [], ◌∷◌, length, take}
use Rattle.std.specs.Prelude.{Option, Some, None, slice_index_or, bit_or}
use Rattle.std.specs.Char.{is_ascii_hexdigit}
use Rattle.std.specs.List.{list_all}
use Rattle.std.specs.Str.Parse.{digits_value}

-- 1 to 16 hexadecimal digits
abbrev pub are_digits : List ℕ → Bool
are_digits digits = nat_lt 0 (length digits) && nat_le (length digits) 16 && list_all is_ascii_hexdigit digits

abbrev pub page_by : List ℕ → Option ℕ
page_by digits = if are_digits digits then Some (digits_value 16 digits) else None

-- a page: `0x` (48, 120), and its digits
abbrev pub page_in : List ℕ → Option ℕ
page_in (zero_digit ∷ mark ∷ digits) = if zero_digit == 48 && mark == 120 then page_by digits else None
page_in _ = None

-- what stands between the braces (123, 125) of a list
abbrev pub list_in : List ℕ → Option (List ℕ)
list_in [] = None
list_in (first ∷ rest) =
    if first == 123 && slice_index_or rest (length rest - 1) 0 == 125 then Some (take (length rest - 1) rest) else None

-- a vector with the bit of an ITag set, if it is below 32
abbrev pub with_itag : ℕ → ℕ → Option ℕ
with_itag vector itag = if nat_lt itag 32 then Some (bit_or vector (2 ^ itag)) else None
