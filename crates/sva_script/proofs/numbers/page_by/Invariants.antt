use Rattle.std.proofs.Common.{◌≡◌, drop, true}
use Rattle.std.specs.Char.{is_ascii_hexdigit}
use Rattle.std.specs.List.{list_all}
use Rattle.std.specs.Str.Parse.{digits_value, digits_value_after}
use Rattle.sva_script.proofs.numbers.page_by.Given as goal

-- the digits that are left, behind the page so far, write what all of them do
abbrev pub invariant-loop-byte : goal.invariant-loop-byte
invariant-loop-byte l = record {
  value : digits_value_after 16 l.page (drop l.byte-index l.digits) ≡ digits_value 16 l.digits;
  digits : list_all is_ascii_hexdigit (drop l.byte-index l.digits) ≡ true;
}
